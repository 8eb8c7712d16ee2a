-- `set_shape` meets its contract. The loop's invariant: the shape, and the marks of the words below the i-th.
use native.Mathlib.Omega.{arith}
use Rattle.store.proofs.Shaped.{shaping-ends}
use Rattle.store.proofs.shape.set_shape.Goals as goal

pub returns : goal.returns
returns c = shaping-ends c.loop-i.invariant c.requires (omega arith)
