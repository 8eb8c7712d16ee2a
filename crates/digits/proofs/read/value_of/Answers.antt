-- `value_of` meets its contract: n is what the digits so far spell.
use Rattle.std.proofs.Common.{rules, ◌≡◌, ◌+◌, ◌*◌, ◌-◌, ◌^◌, ◌≤◌, ◌<◌, sym, ◌∙◌, ap, arith, get_or, add-one, Err}
use Rattle.digits.specs.declared.read.NumberError.TheVariants.{TooLarge}
use lib.Seq.{take_all}
use Rattle.digits.specs.Numeral.{value_in}
use Rattle.digits.proofs.Spelling.{digit_at, value_none, value-more, too_large, fits}
use Rattle.digits.proofs.read.value_of.Goals as goal

pub loop-c-init : goal.loop-c-init
loop-c-init c = (sym value_none, omega arith)

pub overflow_sub-d : goal.overflow_sub-d
overflow_sub-d c = (digit_at _ _ c.requires c.loop-c-test.true).0

pub returns-in_err-n : goal.returns-in_err-n
returns-in_err-n c =
    let l = c.loop-c in
    let over : 2 ^ 64 ≤ l.n * 10 + (get_or c.args.text.now l.c-index 0 - 48) = search rules in
    let gives : c.from_residual.result ≡ Err TooLarge = search rules in
    gives ∙ too_large _ l.c-index c.requires c.loop-c-test.true (omega (arith, l.invariant.0, over))

pub loop-c-preserved : goal.loop-c-preserved
loop-c-preserved c =
    let l = c.loop-c in
    let more : c.in_ok-n.n ≡ l.n * 10 + (get_or c.args.text.now l.c-index 0 - 48) = search rules in
    let low : c.in_ok-n.n < 2 ^ 64 = search rules in
    (more ∙ rw (add-one, value-more _ l.c-index c.loop-c-test.true, ← l.invariant.0), low)

pub returns : goal.returns
returns c =
    let l = c.loop-c in
    let whole : l.n ≡ value_in 10 c.args.text.now = l.invariant.0 ∙ ap (value_in 10) (take_all l.c-index c.args.text.now c.loop-c-test.false) in
    rw whole (fits _ c.requires (omega (arith, whole, l.invariant.1)))
