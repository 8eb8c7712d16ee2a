-- `text::put_order` meets its contract.
use native.Mathlib.Omega.{arith}
use Rattle.digits.specs.Numeral.{bytes_of}
use Rattle.digits.proofs.Buffer.{writes-within}
use Rattle.text.specs.Text.{order_line}
use Rattle.text.proofs.Lines.{order_line-length}
use Rattle.text.proofs.put_order.Goals as goal

pub line-requires : goal.line-requires
unfolding order_line bytes_of
line-requires c = omega (arith, order_line-length _ c.ranges.tag.fits, c.requires)

pub returns : goal.returns
unfolding order_line bytes_of
returns c = writes-within _ (order_line-length _ c.ranges.tag.fits) c.line.ensures
