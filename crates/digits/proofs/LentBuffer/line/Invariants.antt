-- `LentBuffer::line` meets its contract: after i turns the name and the first i numbers are written.
use mathlib.Core.List.{◌++◌}
use lib.ListN.{take}
use Rattle.std.specs.List.{flat_map}
use Rattle.digits.specs.Inner.Buffer.{Writes}
use Rattle.digits.proofs.Lines.{spaced}
use Rattle.digits.proofs.LentBuffer.line.Given as goal

abbrev pub invariant-loop-n : goal.invariant-loop-n
invariant-loop-n l = Writes l.fn.self (l.name ++ flat_map spaced (take l.n-index l.numbers)) l.self
