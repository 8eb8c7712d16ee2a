-- `words::length_in` meets its contract, by what a digit is.
use Rattle.std.proofs.Common.{refl, arith}
use Rattle.words.specs.Inner.Digits.{digit}
use Rattle.words.proofs.length_in.Goals as goal

pub returns : goal.returns
unfolding digit
returns c = (refl, omega arith)
