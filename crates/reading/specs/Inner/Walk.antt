-- What is known of a text while its lines are read, and what the reading promises.
use Rattle.std.specs.Prelude.{ℕ, suc, ◌*◌, ◌≤◌, ◌<◌, min, ◌≡◌, List, [], ◌∷◌, ◌++◌, map, length, slice_get, take, drop, Result, Ok, Err}
use Rattle.lists.specs.Table.{list_below}
use Rattle.lines.specs.Said.{leading}
use Rattle.trace.specs.Item.{Item}
use Rattle.writing.specs.Rows.{Rows, row_count, known, entry}
use Rattle.reading.specs.Text as X
use Rattle.reading.specs.Text.{in_line, lines_of, items, wrong_line, push, read_from, text_says, item_lines_from, item_lines}
use Rattle.reading.specs.Inner.Row.{item_of, SameSizes}
use Rattle.reading.specs.declared.WrongLine.{WrongLine}

-- ---- the text
-- items in front of what the rest says
unfoldable pub in_front : List Item → X.Read → X.Read
in_front [] rest = rest
in_front (x ∷ xs) rest = push x (in_front xs rest)

-- the first line of a text that has one, and the rest behind its newline
pub record LineSplit (text line rest : List ℕ) : Type 0 where
  pub some : 0 < length text
  pub line_is : line ≡ take (leading in_line text) text
  pub rest-is : rest ≡ drop (suc (leading in_line text)) text

-- the next line of a rest behind so many lines, and its number
pub record LineNext (passed : ℕ) (rest : List ℕ) (number : ℕ) (line : List ℕ) (passed' : ℕ) (rest' : List ℕ) : Type 0 where
  pub number_is : number ≡ suc passed
  pub passed_is : passed' ≡ suc passed
  pub split : LineSplit rest line rest'

-- the lines of a rest, behind so many others
abbrev pub rest_says : ℕ → List ℕ → X.Read
rest_says passed rest = read_from (suc passed) (lines_of rest)

abbrev pub rest_items : ℕ → List ℕ → List ℕ
rest_items passed rest = item_lines_from (suc passed) (lines_of rest)

-- ---- the rows
-- the first n rows say the items, as far as there are rows
pub record RowsHold (before : Rows) (xs : List Item) (n : ℕ) (r : Rows) : Type 0 where
  pub many : n ≡ min (length xs) (row_count before)
  pub hold : map known (take n xs) ≡ list_below n (entry r)
  pub sizes : SameSizes before r

-- one item more, whatever stands in the rows before
pub record Kept (kind : ℕ) (values : List ℕ) (n : ℕ) (r : Rows) (n' : ℕ) (r' : Rows) : Type 0 where
  pub one_more : (before : Rows) (xs : List Item) → RowsHold before xs n r → RowsHold before (xs ++ (item_of kind values ∷ [])) n' r'

-- ---- both
pub record Walked (text : List ℕ) (before : Rows) (passed : ℕ) (rest : List ℕ) (n : ℕ) (r : Rows) : Type 0 where
  pub xs : List Item
  pub so_far : text_says text ≡ in_front xs (rest_says passed rest)
  pub kept : RowsHold before xs n r

-- the number of an item's line is among those that are left
pub record Sought (text : List ℕ) (row passed : ℕ) (rest : List ℕ) (left : ℕ) : Type 0 where
  pub so_far : slice_get (item_lines text) row ≡ slice_get (rest_items passed rest) left

-- ---- what `read` promises
-- the first n rows say the items of the text, as far as there are rows
pub record ItemsRead (text : List ℕ) (before : Rows) (n : ℕ) (r : Rows) : Type 0 where
  pub xs : List Item
  pub says_is : text_says text ≡ items xs
  pub many : n ≡ min (length xs) (row_count before)
  pub hold : map known (take n xs) ≡ list_below n (entry r)
  pub heads-room : 2 * n ≤ length r.heads
  pub bytes-room : 10 * n ≤ length r.bytes
  pub words-room : 8 * n ≤ length r.words

abbrev pub Told : List ℕ → Rows → Result ℕ WrongLine → Rows → Type 0
Told text before (Ok n) r = ItemsRead text before n r
Told text before (Err w) r = text_says text ≡ wrong_line w.number w.wrong.reason w.wrong.place

pub record ReadRows (text : List ℕ) (before : Rows) (answer : Result ℕ WrongLine) (r : Rows) : Type 0 where
  pub told : Told text before answer r
  pub sizes : SameSizes before r
