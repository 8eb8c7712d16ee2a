-- `text::put_refused` meets its contract.
use native.Mathlib.Omega.{arith}
use Rattle.digits.specs.Numeral.{bytes_of}
use Rattle.digits.proofs.Buffer.{writes-within}
use Rattle.text.specs.Text.{refused_text}
use Rattle.text.proofs.Lines.{refused_text-length}
use Rattle.text.proofs.put_refused.Goals as goal

pub line-requires : goal.line-requires
unfolding refused_text bytes_of
line-requires c = omega (arith, refused_text-length _ _ c.ranges.number.fits c.ranges.offset.fits, c.requires)

pub returns : goal.returns
unfolding refused_text bytes_of
returns c = writes-within _ (refused_text-length _ _ c.ranges.number.fits c.ranges.offset.fits) c.line.ensures
