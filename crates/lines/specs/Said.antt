-- What a line says: request No. 1 of document 02.
use Rattle.std.specs.Prelude.{ℕ, zero, suc, ◌^◌, Bool, not, List, [], ◌∷◌, length, get_or, take, drop, eqb, ltb}
use Rattle.lists.specs.Choice.{choose}
use Rattle.lists.specs.Search.{some}
use Rattle.digits.specs.Numeral.{value_in, is_decimal}
use Rattle.trace.specs.Item.{Item}
use Rattle.trace.specs.Table.{Row, is_row}
use Rattle.lines.specs.Forms.{row_named, names_at, place_in}
use Rattle.lines.specs.declared.Reason.{Reason}
use Rattle.lines.specs.declared.Reason.TheVariants.{Name, Missing, Extra, NoNumber, TooLarge}

-- ---- fields
-- how many elements stand in front of the first that fails a test
unfoldable pub leading : (ℕ → Bool) → List ℕ → ℕ
leading test [] = 0
leading test (c ∷ s) = choose (test c) (suc (leading test s)) 0

-- "tabs and carriage returns count as spaces"
unfoldable pub is_space : ℕ → Bool
is_space c = some (eqb c) (32 ∷ 9 ∷ 13 ∷ [])

abbrev pub in_field : ℕ → Bool
in_field c = not (is_space c)

-- "one or more spaces between", "spaces may stand before the first and after the last field"
abbrev pub past_spaces : List ℕ → List ℕ
past_spaces s = drop (leading is_space s) s

abbrev pub first_field : List ℕ → List ℕ
first_field s = take (leading in_field s) s

abbrev pub past_field : List ℕ → List ℕ
past_field s = drop (leading in_field s) s

-- at most `most` fields; a line of n bytes has no more than n
unfoldable pub fields_up_to : ℕ → List ℕ → List (List ℕ)
fields_up_to zero s = []
fields_up_to (suc most) s =
    choose (eqb (length (past_spaces s)) 0) []
    (first_field (past_spaces s) ∷ fields_up_to most (past_field (past_spaces s)))

unfoldable pub fields : List ℕ → List (List ℕ)
fields line = fields_up_to (length line) line

-- ---- numbers
-- the numbers of a record's fields; or the first field that has none, counted from 1, and why
pub data Values : Type 0 where
  all : List ℕ → Values
  wrong : Reason → ℕ → Values

-- one more number in front
unfoldable pub behind : ℕ → Values → Values
behind v (all vs) = all (v ∷ vs)
behind v (wrong reason place) = wrong reason place

-- "numbers have no leading zeros and fit their field"; the rest decides where this one does
unfoldable pub number_then : ℕ → ℕ → List ℕ → Values → Values
number_then place width field rest =
    choose (is_decimal field)
    (choose (ltb (value_in 10 field) (256 ^ width)) (behind (value_in 10 field) rest) (wrong TooLarge (suc place)))
    (wrong NoNumber (suc place))

-- a name of the field stands for its number
unfoldable pub field_then : List (List ℕ) → ℕ → ℕ → List ℕ → Values → Values
field_then names place width field rest =
    choose (ltb (place_in field names) (length names)) (behind (place_in field names) rest) (number_then place width field rest)

-- the fields of widths, from the field at a place of a kind's record on
unfoldable pub values_from : ℕ → ℕ → List ℕ → List (List ℕ) → Values
values_from kind place [] [] = all []
values_from kind place [] (f ∷ fs) = wrong Extra (suc place)
values_from kind place (width ∷ widths) [] = wrong Missing (suc place)
values_from kind place (width ∷ widths) (f ∷ fs) = field_then (names_at kind place) place width f (values_from kind (suc place) widths fs)

-- ---- lines
-- nothing; an item; or that it is no item, why, and the field, 0 for the name
pub data Said : Type 0 where
  skipped : Said
  says : Item → Said
  wrong : Reason → ℕ → Said

unfoldable pub made : Row → Values → Said
made row (all vs) = says (row.make vs)
made row (wrong reason place) = wrong reason place

-- the record's name stands first
unfoldable pub fields_say : List (List ℕ) → Said
fields_say [] = skipped
fields_say (name ∷ rest) =
    choose (is_row (row_named name)) (made (row_named name) (values_from (row_named name).kind 0 (row_named name).widths rest)) (wrong Name 0)

-- "a line is skipped if it has nothing but spaces, or begins with `#`"
unfoldable pub line_says : List ℕ → Said
line_says line = choose (eqb (get_or line 0 0) 35) skipped (fields_say (fields line))
