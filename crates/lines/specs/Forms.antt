-- The names in lines that say items: request No. 1 of document 02. A line has the record's name and its fields in the record's order.
use Rattle.std.specs.Prelude.{ℕ, zero, suc, List, [], ◌∷◌, eqb}
use Prim.Native.String.{String}
use Rattle.lists.specs.Choice.{choose, both}
use Rattle.digits.specs.Numeral.{bytes_of, same}
use Rattle.trace.specs.Table.{Row, shape_row, word_row, request_row, event_row, drain_row, no_row}

-- a record's name in lines
pub record Form : Type 0 where
  pub name : List ℕ
  pub row : Row

abbrev pub form : String → Row → Form
form name row = record { name = bytes_of name; row = row }

-- "`shape 1 2 2`, `word 5 100`, `request 0 add 5 5 0`, `event issue 0 0`, `drain 8`"
unfoldable pub forms : List Form
forms = form "shape" shape_row ∷ form "word" word_row ∷ form "request" request_row ∷ form "event" event_row ∷ form "drain" drain_row ∷ []

-- the row of a record's name; no row where none has it
unfoldable pub row_named_in : List ℕ → List Form → Row
row_named_in name [] = no_row
row_named_in name (f ∷ fs) = choose (same name f.name) f.row (row_named_in name fs)

abbrev pub row_named : List ℕ → Row
row_named name = row_named_in name forms

-- the name of a kind's records
unfoldable pub name_in : ℕ → List Form → List ℕ
name_in kind [] = []
name_in kind (f ∷ fs) = choose (eqb kind f.row.kind) f.name (name_in kind fs)

abbrev pub name_of : ℕ → List ℕ
name_of kind = name_in kind forms

-- ---- numbers that have names
-- "an operation may be `load`, `swap`, `add`, `mask` or its number"
abbrev pub operations : List (List ℕ)
operations = bytes_of "load" ∷ bytes_of "swap" ∷ bytes_of "add" ∷ bytes_of "mask" ∷ []

-- "a what `issue`, `forward`, `module`, `return`, `collect` or its number"
abbrev pub whats : List (List ℕ)
whats = bytes_of "issue" ∷ bytes_of "forward" ∷ bytes_of "module" ∷ bytes_of "return" ∷ bytes_of "collect" ∷ []

-- the names that the numbers of a field have, from 0: the fields of a kind's records are counted from 0 too
unfoldable pub names_at : ℕ → ℕ → List (List ℕ)
names_at kind place = choose (both (eqb kind 3) (eqb place 1)) operations (choose (both (eqb kind 4) (eqb place 0)) whats [])

-- the place of a name among names; how many there are, where it is none of them
unfoldable pub place_in : List ℕ → List (List ℕ) → ℕ
place_in name [] = zero
place_in name (n ∷ names) = choose (same name n) zero (suc (place_in name names))
