-- `set_shape` meets its contract. The loop's invariant: the shape, and the marks of the words below the i-th.
use Rattle.store.proofs.Shaped.{Shaping}
use Rattle.store.proofs.shape.set_shape.Given as goal

abbrev pub invariant-loop-i : goal.invariant-loop-i
invariant-loop-i l = Shaping l.fn.m l.k l.q l.w l.count l.m l.i
