-- The bytes of a row's record, whether its kind is known or not.
use Rattle.std.specs.Prelude.{ℕ, zero, suc, ◌+◌, ◌*◌, ◌≤◌, ◌<◌, ◌^◌, List, [], ◌++◌, length, get_or}
use Rattle.trace.specs.Table.{Row, body_size, kind_row}
use Rattle.trace.specs.Write.{bytes, field_bytes}
use Rattle.writing.specs.Rows.{Rows, kind_at, cell, picked}

-- the row of the table for a row's kind; its fields
abbrev pub row_at : Rows → ℕ → Row
row_at r i = kind_row (kind_at r i)

abbrev pub fields_at : Rows → ℕ → List ℕ
fields_at r i = picked (cell r i) (λ width. zero) (row_at r i).widths

unfoldable pub body_at : Rows → ℕ → List ℕ
body_at r i = field_bytes (row_at r i).widths (fields_at r i)

unfoldable pub record_at : Rows → ℕ → List ℕ
record_at r i = bytes 2 (body_size (row_at r i)) ++ (bytes 2 (kind_at r i) ++ body_at r i)

-- the records of the first n rows
unfoldable pub records_to : Rows → ℕ → List ℕ
records_to r zero = []
records_to r (suc n) = records_to r n ++ record_at r n

-- row i stands whole in all slices
pub record RowIn (r : Rows) (i : ℕ) : Type 0 where
  pub heads-in : 2 * i + 2 ≤ length r.heads
  pub bytes-in : 10 * i + 10 ≤ length r.bytes
  pub words-in : 8 * i + 8 ≤ length r.words

-- each number is as wide as its slice has it
pub record Typed (r : Rows) : Type 0 where
  pub heads-low : (i : ℕ) → get_or r.heads i 0 < 65536
  pub bytes_low : (i : ℕ) → get_or r.bytes i 0 < 256
  pub words-low : (i : ℕ) → get_or r.words i 0 < 2 ^ 64
