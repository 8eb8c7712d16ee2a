-- `acts_from` meets its contract: act by act, until the trace ends or every request is answered.
use Prim.Native.Nat.{◌-◌}
use lib.ListN.{length}
use Rattle.run.proofs.Acts.{Going}
use Rattle.run.proofs.acts_from.Given as goal

abbrev pub invariant-loop-act : goal.invariant-loop-act
invariant-loop-act l = Going l.trace l.from l.initial.m l.initial.words l.at l.m l.words

abbrev pub decreases-loop-act : goal.decreases-loop-act
decreases-loop-act l = length l.trace - l.at
