-- `text::put_reply` meets its contract: the name and the tag, then `-` for unanswered, else the value.
use native.Mathlib.Omega.{arith}
use lib.ListN.{length-append}
use borrow.Author.Tests.{eq-eqb, ne_eqb}
use Rattle.digits.specs.Numeral.{bytes_of}
use Rattle.digits.proofs.Buffer.{writes_then, writes-within, size-kept}
use Rattle.digits.proofs.Numerals.{decimal-word}
use Rattle.text.specs.Text.{reply_line}
use Rattle.text.proofs.Lines.{reply_line-length}
use Rattle.text.proofs.put_reply.Goals as goal

pub number-requires : goal.number-requires
number-requires c =
    simp length-append (omega (arith, size-kept c.field.ensures, c.field.ensures.wrote.behind, decimal-word _ c.ranges.tag.fits, c.requires))

pub field-requires-then-mark-eq0 : goal.field-requires-then-mark-eq0
field-requires-then-mark-eq0 c =
    let tagged = writes_then c.field.ensures c.number.ensures in
    omega (arith, size-kept tagged, simp length-append at tagged.wrote.behind, decimal-word _ c.ranges.tag.fits, c.requires)

pub number-requires-else-mark-eq0 : goal.number-requires-else-mark-eq0
number-requires-else-mark-eq0 c =
    let tagged = writes_then c.field.ensures c.number.ensures in
    let size = simp length-append at tagged.wrote.behind in
    simp length-append (omega (arith, size-kept tagged, size, decimal-word _ c.ranges.tag.fits, decimal-word _ c.ranges.value.fits, c.requires))

pub returns-then-mark-eq0 : goal.returns-then-mark-eq0
unfolding reply_line bytes_of
returns-then-mark-eq0 c =
    writes-within _ (reply_line-length _ c.args.value c.args.mark c.ranges.tag.fits c.ranges.value.fits)
    (rw (eq-eqb _ 0 c.if-mark-eq0.true) (writes_then c.field.ensures (writes_then c.number.ensures c.field-then-mark-eq0.ensures)))

pub returns-else-mark-eq0 : goal.returns-else-mark-eq0
unfolding reply_line bytes_of
returns-else-mark-eq0 c =
    writes-within _ (reply_line-length _ c.args.value c.args.mark c.ranges.tag.fits c.ranges.value.fits)
    (rw (ne_eqb _ 0 c.if-mark-eq0.false) (writes_then c.field.ensures (writes_then c.number.ensures c.number-else-mark-eq0.ensures)))
