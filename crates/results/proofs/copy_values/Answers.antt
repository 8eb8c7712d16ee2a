-- `results::copy_values` meets its contract: the slice is filled from its front.
use native.Mathlib.Omega.{arith}
use Rattle.results.proofs.Filling.{filled_more}
use Rattle.results.proofs.copy_values.Goals as goal

pub loop-t-preserved : goal.loop-t-preserved
loop-t-preserved c = filled_more c.loop-t.invariant (omega arith) c.value_of.ensures
