-- `past_drains` meets its contract: stride by stride.
use native.Mathlib.Omega.{arith}
use Rattle.std.proofs.Common.{rules}
use Rattle.trace.proofs.Runs.{passed-eight}
use Rattle.trace.proofs.passed.past_drains.Goals as goal

pub overflow_sub-s : goal.overflow_sub-s
overflow_sub-s c = (c.loop-i.invariant.passed 0).inside

pub loop-i-preserved : goal.loop-i-preserved
loop-i-preserved c = passed-eight (record { below = λ j. (c.type_inv.s j).fits }) c.loop-i.invariant
    (omega (arith, c.loop-i-test.true, (c.loop-i.invariant.passed 0).inside))
    c.four_drains.ensures (search rules) c.four_drains-then-s-i.ensures (search rules)
