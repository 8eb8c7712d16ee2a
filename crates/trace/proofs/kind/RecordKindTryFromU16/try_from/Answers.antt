-- `try_from` meets its contract: what is none of the five numbers is of no row.
use mathlib.Core.Path.{refl}
use native.Mathlib.Omega.{arith}
use Rattle.trace.proofs.KindRows.{no-kind}
use Rattle.trace.proofs.kind.RecordKindTryFromU16.try_from.Goals as goal

pub returns-in_default : goal.returns-in_default
returns-in_default c = (refl, no-kind c.args.n (omega arith) (omega arith) (omega arith) (omega arith) (omega arith))
