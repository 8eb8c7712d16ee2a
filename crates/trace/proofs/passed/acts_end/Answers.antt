-- `acts_end` meets its contract: act by act, as far as none is refused.
use native.Mathlib.Omega.{arith}
use Rattle.trace.proofs.Runs.{passed-header, passed_then, passed-told}
use Rattle.trace.proofs.passed.acts_end.Goals as goal

pub loop-i-preserved-then-is_event : goal.loop-i-preserved-then-is_event
loop-i-preserved-then-is_event c = passed-told (record { below = λ j. (c.type_inv.s j).fits }) c.loop-i.invariant (omega arith)
    c.number8-w.ensures c.requires.2 c.fixed_bits-fixed.ensures c.steps_of-named.ensures
    c.is_event.ensures c.if-is_event.true

pub loop-i-smaller : goal.loop-i-smaller
loop-i-smaller c = omega (arith, (c.past_drains-i.ensures.passed 0).onward, (c.past_drains-i.ensures.passed 0).inside)

pub loop-i-preserved : goal.loop-i-preserved
loop-i-preserved c = passed_then
    (passed-header (record { below = λ j. (c.type_inv.s j).fits }) c.loop-i.invariant (omega arith)
    c.number8-w.ensures c.if-w-eq-DRAIN_HEADER.true)
    (c.past_drains-i.ensures.passed _)
