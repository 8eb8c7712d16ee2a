-- `digits::digit` meets its contract.
use borrow.Author.Rules.{rules}
use Rattle.digits.specs.Numeral.{digit}
use Rattle.digits.proofs.digit.Goals as goal

pub returns : goal.returns
unfolding digit
returns c = search rules
