-- `is_decimal` meets its contract.
use Rattle.std.proofs.Common.{rules, sym, ◌∙◌}
use Rattle.digits.proofs.Spelling.{none-decimal, zero-first, test-told}
use Rattle.digits.proofs.read.is_decimal.Goals as goal

pub returns-then-is_empty : goal.returns-then-is_empty
returns-then-is_empty c = sym (none-decimal _ (search rules))

pub returns-then-text-eq48 : goal.returns-then-text-eq48
returns-then-text-eq48 c = zero-first _ c.if-text-eq48.true (search rules)

pub returns : goal.returns
returns c = c.all_digits.ensures ∙ test-told _ (search rules) c.if-text-eq48.false
