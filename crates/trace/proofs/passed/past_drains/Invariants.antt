-- `past_drains` meets its contract: stride by stride.
use Prim.Native.Nat.{◌-◌}
use lib.ListN.{length}
use Rattle.trace.specs.Inner.Known.{DrainsPassed}
use Rattle.trace.proofs.passed.past_drains.Given as goal

abbrev pub invariant-loop-i : goal.invariant-loop-i
invariant-loop-i l = DrainsPassed l.s l.at l.i

abbrev pub decreases-loop-i : goal.decreases-loop-i
decreases-loop-i l = length l.s - l.i
