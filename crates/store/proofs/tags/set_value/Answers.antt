-- `set_value` meets its contract: the first operand, and all else of the tag as it was.
use native.Mathlib.Omega.{arith}
use Rattle.store.proofs.Tagged.{value_set}
use Rattle.store.proofs.tags.set_value.Goals as goal

pub returns : goal.returns
returns c = value_set c.args.m.now c.told-m c.args.t (omega arith) c.args.value
