-- Numerals to base 2 (No. 13), and what a text spells as the code tells it.
use Rattle.std.specs.Prelude.{ℕ, ◌^◌, ◌≤◌, List, ltb, Result, Ok, Err}
use Rattle.lists.specs.Choice.{choose}
use Rattle.digits.specs.Numeral.{numeral, value_in, is_decimal}
use Rattle.digits.specs.declared.read.NumberError.{NumberError}
use Rattle.digits.specs.declared.read.NumberError.TheVariants.{NoNumber, TooLarge}

abbrev pub binary : ℕ → List ℕ
binary = numeral 2

-- a byte that is a decimal digit
abbrev pub IsDigit : ℕ → Type 0
IsDigit d = (48 ≤ d) × (d ≤ 57)

-- the number; or no number in decimal, or one that does not fit in 64 bits
unfoldable pub spelled : List ℕ → Result ℕ NumberError
spelled f = choose (is_decimal f) (choose (ltb (value_in 10 f) (2 ^ 64)) (Ok (value_in 10 f)) (Err TooLarge)) (Err NoNumber)
