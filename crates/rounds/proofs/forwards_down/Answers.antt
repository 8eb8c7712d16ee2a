-- `forwards_down` meets its contract. The loop's invariant: the rows from the level down lead to the end.
use native.Mathlib.Omega.{arith}
use Rattle.event.proofs.Steps.{forwards-fit}
use Rattle.rounds.proofs.Whole.{falling-level, falling-goes, falling-ends}
use Rattle.rounds.proofs.forwards_down.Goals as goal

pub at_each_busy-requires-clause-level_value : goal.at_each_busy-requires-clause-level_value
at_each_busy-requires-clause-level_value c = forwards-fit _ _ (omega arith) (falling-level c.loop-level.invariant)

pub loop-level-preserved : goal.loop-level-preserved
loop-level-preserved c = falling-goes c.loop-level.invariant (omega arith) c.at_each_busy.ensures

pub returns : goal.returns
returns c = falling-ends c.loop-level.invariant (omega arith)
