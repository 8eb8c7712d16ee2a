-- `wiring::position_on` meets its contract, by what a digit is.
use mathlib.Core.Path.{refl}
use native.Mathlib.Omega.{arith}
use Rattle.words.specs.Inner.Digits.{digit}
use Rattle.wiring.specs.Inner.Path.{position_on}
use Rattle.wiring.proofs.position_on.Goals as goal

pub returns : goal.returns
unfolding position_on digit
returns c = (refl, omega arith)
