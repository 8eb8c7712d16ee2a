-- `digits::put_decimal` meets its contract: the digits of n / 10, then that of n % 10.
use mathlib.Core.Path.{refl}
use native.Mathlib.Omega.{arith}
use Rattle.digits.proofs.Buffer.{wrote_then}
use Rattle.digits.proofs.Numerals.{numeral-one, numeral-more, numeral-longer, numeral-some}
use Rattle.digits.proofs.+put_decimal.Goals as goal

pub bounds-out-at : goal.bounds-out-at
bounds-out-at t c = omega (arith, numeral-some 10 (omega arith) c.args.n)

pub put_decimal-next-requires : goal.put_decimal-next-requires
put_decimal-next-requires t c = omega (arith, numeral-longer 10 (omega arith) c.args.n c.if-n-lt10.false)

pub bounds-out-next : goal.bounds-out-next
bounds-out-next t c = omega (arith, numeral-longer 10 (omega arith) c.args.n c.if-n-lt10.false)

pub overflow_add-result-else-n-lt10 : goal.overflow_add-result-else-n-lt10
overflow_add-result-else-n-lt10 t c = omega (arith, numeral-longer 10 (omega arith) c.args.n c.if-n-lt10.false)

pub returns-then-n-lt10 : goal.returns-then-n-lt10
returns-then-n-lt10 t c = rw (numeral-one 10 (omega arith) _ c.if-n-lt10.true, ← c.digit.ensures) (record { bytes = refl; behind = refl })

pub returns-else-n-lt10 : goal.returns-else-n-lt10
returns-else-n-lt10 t c =
    rw (numeral-more 10 (omega arith) _ c.if-n-lt10.false, ← c.digit-else-n-lt10.ensures)
    (wrote_then c.put_decimal-next.ensures (record { bytes = refl; behind = refl }))
