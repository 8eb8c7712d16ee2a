-- `number_in` meets its contract.
use Rattle.std.proofs.Common.{sym, ◌∙◌}
use Rattle.digits.proofs.Spelling.{no_number}
use Rattle.digits.proofs.read.number_in.Goals as goal

pub returns-else-is_decimal : goal.returns-else-is_decimal
returns-else-is_decimal c = no_number _ (sym c.is_decimal.ensures ∙ c.if-is_decimal.false)
