-- `words::low_marks` meets its contract, by `low_bits`.
use Rattle.std.proofs.Common.{arith}
use Rattle.words.proofs.Written.{one-pos}
use Rattle.words.proofs.Marks.{low_bits, low-bits-written}
use Rattle.words.proofs.low_marks.Goals as goal

pub returns-then-n-eq64 : goal.returns-then-n-eq64
returns-then-n-eq64 c = rw c.if-n-eq64.true (low_bits 64)

pub overflow_sub-result : goal.overflow_sub-result
overflow_sub-result c = one-pos c.before.args.n (omega (arith, c.before.requires, c.if-n-eq64.false))

pub returns : goal.returns
returns c = low-bits-written c.before.args.n (omega (arith, c.before.requires, c.if-n-eq64.false))
