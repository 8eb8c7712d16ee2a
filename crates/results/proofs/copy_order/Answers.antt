-- `results::copy_order` meets its contract: the slice is filled from its front.
use native.Mathlib.Omega.{arith}
use Rattle.results.proofs.Filling.{filled_more}
use Rattle.results.proofs.copy_order.Goals as goal

pub loop-i-preserved : goal.loop-i-preserved
loop-i-preserved c = filled_more c.loop-i.invariant (omega arith) c.order_at.ensures
