-- The list of items as a caller lends it: rows over three slices, so that each field is exactly as wide as its record has it.
use Rattle.std.specs.Prelude.{ℕ, zero, suc, ◌+◌, ◌*◌, ◌/◌, min, List, [], ◌∷◌, length, get_or, eqb}
use Rattle.lists.specs.Choice.{choose}
use Rattle.lists.specs.Table.{update, list_below}
use Rattle.trace.specs.Item.{Item}
use Rattle.trace.specs.Table.{Row, is_row, kind_row}

-- numbers of two bytes, 2 a row, the record's kind first; of one byte, 10 a row; of eight bytes, 8 a row
pub record Rows : Type 0 where
  pub heads : List ℕ
  pub bytes : List ℕ
  pub words : List ℕ

abbrev pub rows : (heads bytes words : List ℕ) → Rows
rows heads bytes words = record { heads = heads; bytes = bytes; words = words }

-- as many rows as all slices have
unfoldable pub row_count : Rows → ℕ
row_count r = min (length r.heads / 2) (min (length r.bytes / 10) (length r.words / 8))

-- ---- a row
abbrev pub kind_at : Rows → ℕ → ℕ
kind_at r i = get_or r.heads (2 * i) 0

-- the number of a width that stands at place j of row i, behind the kind
unfoldable pub cell : Rows → ℕ → ℕ → ℕ → ℕ
cell r i width j =
    choose (eqb width 1) (get_or r.bytes (10 * i + j) 0)
    (choose (eqb width 2) (get_or r.heads (2 * i + 1 + j) 0) (get_or r.words (8 * i + j) 0))

-- the numbers for fields of widths: each is the next of its width, behind as many as were used
unfoldable pub picked : (ℕ → ℕ → ℕ) → (ℕ → ℕ) → List ℕ → List ℕ
picked cells used [] = []
picked cells used (width ∷ widths) = cells width (used width) ∷ picked cells (update used width (suc (used width))) widths

-- an item; or a row of a kind that there is none of
pub data Entry : Type 0 where
  known : Item → Entry
  unknown : Entry

-- what a row of numbers says, where its kind has the row of the table
unfoldable pub entry_of : Row → (ℕ → ℕ → ℕ) → Entry
entry_of row cells = choose (is_row row) (known (row.make (picked cells (λ width. zero) row.widths))) unknown

unfoldable pub entry : Rows → ℕ → Entry
entry r i = entry_of (kind_row (kind_at r i)) (cell r i)

-- the list, in its order
unfoldable pub entries : Rows → List Entry
entries r = list_below (row_count r) (entry r)
