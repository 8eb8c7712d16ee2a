-- `text::put_counts` meets its contract: three lines.
use native.Mathlib.Omega.{arith}
use lib.ListN.{length-append}
use Rattle.digits.specs.Numeral.{bytes_of}
use Rattle.digits.proofs.Buffer.{writes_then, writes-within, size-kept}
use Rattle.text.specs.Text.{count_lines}
use Rattle.text.proofs.Lines.{count_lines-length}
use Rattle.text.proofs.put_counts.Goals as goal

pub line-requires : goal.line-requires
unfolding count_lines bytes_of
line-requires c =
    let size = simp length-append at (count_lines-length _ _ _ c.ranges.accesses.fits c.ranges.merges.fits c.ranges.rounds.fits) in
    simp length-append (omega (arith, size, c.requires))

pub line-requires-2 : goal.line-requires-2
unfolding count_lines bytes_of
line-requires-2 c =
    let size = simp length-append at (count_lines-length _ _ _ c.ranges.accesses.fits c.ranges.merges.fits c.ranges.rounds.fits) in
    let behind = simp length-append at c.line.ensures.wrote.behind in
    simp length-append (omega (arith, size, size-kept c.line.ensures, behind, c.requires))

pub line-requires-3 : goal.line-requires-3
unfolding count_lines bytes_of
line-requires-3 c =
    let size = simp length-append at (count_lines-length _ _ _ c.ranges.accesses.fits c.ranges.merges.fits c.ranges.rounds.fits) in
    let two = writes_then c.line.ensures c.line-2.ensures in
    simp length-append (omega (arith, size, size-kept two, simp length-append at two.wrote.behind, c.requires))

pub returns : goal.returns
unfolding count_lines bytes_of
returns c =
    let two = writes_then c.line.ensures c.line-2.ensures in
    let size = count_lines-length _ _ _ c.ranges.accesses.fits c.ranges.merges.fits c.ranges.rounds.fits in
    writes-within _ size (writes_then two c.line-3.ensures)
