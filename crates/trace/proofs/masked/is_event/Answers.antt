-- `is_event` meets its contract: where the mask agrees the set of steps decides, and else it is none.
use borrow.Author.Tests.{eq-eqb, ne_eqb}
use mathlib.Core.Path.{sym, ◌∙◌}
use Rattle.trace.proofs.Events.{no-event, step-told}
use Rattle.trace.proofs.masked.is_event.Goals as goal

pub returns-then-w-fixed-ne-EVENT_HEADER : goal.returns-then-w-fixed-ne-EVENT_HEADER
returns-then-w-fixed-ne-EVENT_HEADER c = record {
  tells = λ k h m s. sym (no-event k c.args.w h (sym (m.tells c.args.w) ∙ ne_eqb _ _ c.if-w-fixed-ne-EVENT_HEADER.true));
}

pub returns : goal.returns
returns c = record {
  tells = λ k h m s. step-told k c.args.w (sym (m.tells c.args.w) ∙ eq-eqb _ _ c.if-w-fixed-ne-EVENT_HEADER.false) c.args.named s;
}
