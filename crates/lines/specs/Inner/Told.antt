-- What the code tells of one field.
use Rattle.std.specs.Prelude.{ℕ, suc, ◌^◌, List, [], ◌∷◌, length, get_or, ltb, Option, Some, None, Result, Ok, Err}
use Rattle.lists.specs.Choice.{choose}
use Rattle.digits.specs.Numeral.{value_in, is_decimal}
use Rattle.digits.specs.declared.read.NumberError.{NumberError}
use Rattle.digits.specs.declared.read.NumberError.TheVariants as N
use Rattle.trace.specs.Table.{is_row, kind_row}
use Rattle.lines.specs.Forms.{row_named, names_at, place_in}
use Rattle.lines.specs.Said.{Values, wrong, behind}
use Rattle.lines.specs.declared.Reason.{Reason}
use Rattle.lines.specs.declared.Reason.TheVariants.{NoNumber, TooLarge}

-- the kind of the records of a name
unfoldable pub kind_told : List ℕ → Option ℕ
kind_told name = choose (is_row (row_named name)) (Some (row_named name).kind) None

-- the number that a name stands for
unfoldable pub named_in : List (List ℕ) → List ℕ → Option ℕ
named_in names field = choose (ltb (place_in field names) (length names)) (Some (place_in field names)) None

-- what is wrong with a field that spells no number
abbrev pub reason_of : NumberError → Reason
reason_of N.NoNumber = NoNumber
reason_of N.TooLarge = TooLarge

-- the number that a field spells, below a bound
unfoldable pub number_told : ℕ → List ℕ → Result ℕ Reason
number_told bound field =
    choose (is_decimal field) (choose (ltb (value_in 10 field) bound) (Ok (value_in 10 field)) (Err TooLarge)) (Err NoNumber)

-- where a name may stand for it too
unfoldable pub field_told : List (List ℕ) → ℕ → List ℕ → Result ℕ Reason
field_told names bound field = choose (ltb (place_in field names) (length names)) (Ok (place_in field names)) (number_told bound field)

-- how many bytes a field of a kind's record has
unfoldable pub width_at : ℕ → ℕ → ℕ
width_at kind place = get_or (kind_row kind).widths place 0

-- of a field of a kind's record
abbrev pub told_at : ℕ → ℕ → List ℕ → Result ℕ Reason
told_at kind place field = field_told (names_at kind place) (256 ^ width_at kind place) field

-- a field's number in front of the rest, or what is wrong with it
abbrev pub told_then : ℕ → Result ℕ Reason → Values → Values
told_then place (Ok v) rest = behind v rest
told_then place (Err reason) rest = wrong reason (suc place)

-- numbers in front of the rest
abbrev pub in_front : List ℕ → Values → Values
in_front [] rest = rest
in_front (v ∷ vs) rest = behind v (in_front vs rest)
