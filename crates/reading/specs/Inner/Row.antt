-- What the storing of an item in a row asks and promises.
use Rattle.std.specs.Prelude.{ℕ, ◌+◌, ◌*◌, ◌<◌, ◌≡◌, ◌≢◌, List, length, get_or, take, set}
use Rattle.trace.specs.Item.{Item}
use Rattle.trace.specs.Table.{kind_row}
use Rattle.trace.specs.Inner.Fits.{FieldsFit}
use Rattle.trace.specs.Inner.Kinds.{number_of_kind}
use Rattle.trace.specs.declared.kind.RecordKind.{RecordKind}
use Rattle.writing.specs.Rows.{Rows, rows, row_count, known, entry}
use Rattle.reading.specs.declared.row.LentRows.{LentRows}

-- ---- the rows that are lent
abbrev pub lent : LentRows → Rows
lent l = rows l.heads.now l.bytes.now l.words.now

-- in the same slices
pub record SameLent (before after : LentRows) : Type 0 where
  pub heads-lent : after.heads.ghost_name ≡ before.heads.ghost_name
  pub bytes-lent : after.bytes.ghost_name ≡ before.bytes.ghost_name
  pub words-lent : after.words.ghost_name ≡ before.words.ghost_name

-- the numbers of a kind's fields: the first of those that were read, and the item with them
abbrev pub fields_of : ℕ → List ℕ → List ℕ
fields_of kind values = take (length (kind_row kind).widths) values

abbrev pub item_of : ℕ → List ℕ → Item
item_of kind values = (kind_row kind).make (fields_of kind values)

-- ---- what is stored
abbrev pub three_set : List ℕ → ℕ → List ℕ → List ℕ
three_set l at values = set (set (set l at (get_or values 0 0)) (at + 1) (get_or values 1 0)) (at + 2) (get_or values 2 0)

abbrev pub two_set : List ℕ → ℕ → List ℕ → List ℕ
two_set l at values = set (set l at (get_or values 3 0)) (at + 1) (get_or values 4 0)

-- ---- the row
-- numbers that fit the fields of a kind
pub record MayKeep (kind : RecordKind) (values : List ℕ) : Type 0 where
  pub fit : FieldsFit (kind_row (number_of_kind kind)).widths (fields_of (number_of_kind kind) values)

pub record MayPut (kind : RecordKind) (values : List ℕ) (i : ℕ) (r : Rows) : Type 0 where
  pub inside : i < row_count r
  pub may : MayKeep kind values

-- as many numbers in each slice as before
pub record SameSizes (r r' : Rows) : Type 0 where
  pub heads-size : length r'.heads ≡ length r.heads
  pub bytes-size : length r'.bytes ≡ length r.bytes
  pub words_size : length r'.words ≡ length r.words

-- the first n rows by themselves, as a caller lends them
abbrev pub first_rows : ℕ → Rows → Rows
first_rows n r = rows (take (2 * n) r.heads) (take (10 * n) r.bytes) (take (8 * n) r.words)

-- row i says the item, and the others what they said
pub record RowPut (kind : ℕ) (values : List ℕ) (i : ℕ) (r r' : Rows) : Type 0 where
  pub row_is : entry r' i ≡ known (item_of kind values)
  pub others : (j : ℕ) → j ≢ i → entry r' j ≡ entry r j
  pub sizes : SameSizes r r'
