-- `append_order` meets its contract: a byte at the first free place, and the length.
use native.Mathlib.Omega.{arith}
use Rattle.store.proofs.Answered.{order-length, order-appended}
use Rattle.store.proofs.answers.append_order.Goals as goal

pub returns : goal.returns
returns c = order-appended c.args.m.now c.told-m c.args.t _
    (omega (arith, order-length c.args.m.now, c.requires)) c.with_highest.ensures
