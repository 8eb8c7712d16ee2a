-- `forwards_down` meets its contract. The loop's invariant: the rows from the level down lead to the end.
use Prim.Native.Nat.{◌-◌}
use Rattle.rounds.proofs.Whole.{Falling}
use Rattle.rounds.proofs.forwards_down.Given as goal

abbrev pub invariant-loop-level : goal.invariant-loop-level
invariant-loop-level l = Falling l.initial.m l.initial.words l.m l.words (l.level-counter - 1)
