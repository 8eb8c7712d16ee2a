-- `told::put_number` meets its contract: the decimal of eight bytes fits.
use native.Mathlib.Omega.{arith}
use lib.ListN.{length-append}
use Rattle.digits.proofs.Numerals.{decimal-word}
use Rattle.digits.proofs.Buffer.{writes-within}
use Rattle.writer.proofs.told.put_number.Goals as goal

pub number-requires : goal.number-requires
number-requires c = simp length-append (omega (arith, decimal-word _ c.ranges.n.fits, c.requires))

pub returns : goal.returns
returns c = writes-within 21 (simp length-append (omega (arith, decimal-word _ c.ranges.n.fits))) c.number.ensures
