-- `LentBuffer::name` meets its contract: after i turns the first i bytes are written.
use lib.ListN.{take}
use Rattle.digits.specs.Inner.Buffer.{Writes}
use Rattle.digits.proofs.LentBuffer.name.Given as goal

abbrev pub invariant-loop-c : goal.invariant-loop-c
invariant-loop-c l = Writes l.fn.self (take l.c-index l.name) l.self
