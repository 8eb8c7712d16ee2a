-- `load` meets its contract. The loop's invariant: what is known, loaded and marked is that of the records passed. Its measure: the bytes left.
use Prim.Native.Nat.{◌-◌}
use lib.ListN.{length}
use Rattle.load.specs.Inner.Loop.{Inside}
use Rattle.load.specs.Inner.Places.{Lent}
use Rattle.load.proofs.load.Given as goal

abbrev pub invariant-loop-fault : goal.invariant-loop-fault
invariant-loop-fault l = Lent l.initial.into l.into × Inside l.s l.p l.into.marks.now l.into.words.now l.into.m.now

abbrev pub decreases-loop-fault : goal.decreases-loop-fault
decreases-loop-fault l = length l.s - l.p.at
