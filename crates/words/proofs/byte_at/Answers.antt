-- `words::byte_at` meets its contract, by what a digit is.
use Rattle.std.proofs.Common.{refl}
use Rattle.words.specs.Inner.Digits.{digit}
use Rattle.words.proofs.byte_at.Goals as goal

pub returns : goal.returns
unfolding digit
returns c = refl
