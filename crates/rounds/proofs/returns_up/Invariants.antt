-- `returns_up` meets its contract. The loop's invariant: the rows below the level were taken.

use Rattle.rounds.proofs.Whole.{Risen}
use Rattle.rounds.proofs.returns_up.Given as goal

abbrev pub invariant-loop-level : goal.invariant-loop-level
invariant-loop-level l = Risen l.initial.m l.initial.words l.m l.words l.level-counter
