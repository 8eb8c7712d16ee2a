-- `text::put_word` meets its contract: no line for an address that nothing names.
use native.Mathlib.Omega.{arith}
use borrow.Author.Tests.{eq-eqb, ne_eqb}
use Rattle.digits.specs.Numeral.{bytes_of}
use Rattle.digits.proofs.Buffer.{writes_nothing, writes-within}
use Rattle.text.specs.Text.{word_line}
use Rattle.text.proofs.Lines.{word_line-length}
use Rattle.text.proofs.put_word.Goals as goal

pub line-requires : goal.line-requires
unfolding word_line bytes_of
line-requires c =
    omega (arith, rw (ne_eqb _ 0 c.if-named-ne0.true) at (word_line-length _ _ c.args.named c.ranges.address.fits c.ranges.value.fits), c.requires)

pub returns-then-named-ne0 : goal.returns-then-named-ne0
unfolding word_line bytes_of
returns-then-named-ne0 c =
    writes-within _ (word_line-length _ _ c.args.named c.ranges.address.fits c.ranges.value.fits) (rw (ne_eqb _ 0 c.if-named-ne0.true) c.line.ensures)

pub returns-else-named-ne0 : goal.returns-else-named-ne0
unfolding word_line
returns-else-named-ne0 c = rw (eq-eqb _ 0 c.if-named-ne0.false) (writes-within _ (omega arith) (writes_nothing _))
