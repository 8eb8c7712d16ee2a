-- `start` meets its contract. The loop's invariant: the requests from t on are linked.
use mathlib.Core.Path.{◌≡◌}
use Rattle.start.proofs.Linking.{linking-more, linking-all}
use native.Mathlib.Omega.{arith}
use Rattle.start.proofs.start.Goals as goal

pub loop-t-preserved : goal.loop-t-preserved
loop-t-preserved c = linking-more c.loop-t.invariant (omega arith) c.link.ensures

pub returns : goal.returns
returns c =
    let none : c.loop-t.t ≡ 0 = omega arith in
    linking-all c.requires c.set_shape.ensures (rw none at c.loop-t.invariant)
