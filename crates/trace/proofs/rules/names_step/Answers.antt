-- `names_step` meets its contract: the position is one of the N, and the kind that the number tells has the level.
use Rattle.std.proofs.Common.{rules}
use borrow.Author.Tests.{lt-ltb}
use Rattle.event.specs.Event.{names_step}
use Rattle.event.proofs.Steps.{told-fits}
use Rattle.trace.proofs.rules.names_step.Goals as goal

pub returns-then-position-width : goal.returns-then-position-width
unfolding names_step
returns-then-position-width c =
    let below = lt-ltb c.args.position _ (rw c.width.ensures.0 at c.if-position-width.true) in
    rw below (told-fits c.args.k c.args.what c.args.level c.try_from.result c.try_from.ensures (λ step is. search rules) c.is_ok_and.ensures)
