-- `set_operation` meets its contract: a head with another code, and two operands.
use native.Mathlib.Omega.{arith}
use Rattle.store.proofs.Tagged.{operation-set}
use Rattle.store.proofs.tags.set_operation.Goals as goal

pub returns : goal.returns
returns c = operation-set c.args.m.now c.told-m c.args.t (omega arith) c.args.f c.from-words.result c.with_code.result
    c.from-words.ensures c.with_code.ensures
