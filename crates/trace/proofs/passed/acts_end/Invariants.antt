-- `acts_end` meets its contract: act by act, as far as none is refused.
use Prim.Native.Nat.{◌-◌}
use lib.ListN.{length}
use Rattle.trace.specs.Inner.Known.{Passed}
use Rattle.trace.proofs.passed.acts_end.Given as goal

abbrev pub invariant-loop-i : goal.invariant-loop-i
invariant-loop-i l = Passed l.s l.k l.at l.i

abbrev pub decreases-loop-i : goal.decreases-loop-i
decreases-loop-i l = length l.s - l.i
