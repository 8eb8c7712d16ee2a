-- The result of writing a list of items into a lent output: request No. 1 of document 02.
use Rattle.std.specs.Prelude.{ℕ, zero, suc, ◌+◌, List, [], ◌∷◌, ltb, leb}
use Rattle.lists.specs.Choice.{choose}
use Rattle.lists.specs.Over.{over}
use Rattle.trace.specs.Item.{Items, none, after}
use Rattle.trace.specs.Table.{record_size, size}
use Rattle.trace.specs.Write.{trace_of}
use Rattle.trace.specs.Records.{Records, done, broken, next}
use Rattle.trace.specs.Check.{Verdict, refused, accepted, check_records}
use Rattle.writing.specs.Rows.{Entry, known, unknown}
use Rattle.writing.specs.declared.Written.{Written}

-- how many bytes the records have together; a row of a kind that there is none of has a header
unfoldable pub entry_size : Entry → ℕ
entry_size (known x) = record_size x
entry_size unknown = 4

unfoldable pub list_size : List Entry → ℕ
list_size [] = 0
list_size (e ∷ es) = entry_size e + list_size es

-- the records of a list as the reader finds them: "2", where the kind is none
unfoldable pub records_of : List Entry → Records
records_of [] = done
records_of (known x ∷ es) = next x (records_of es)
records_of (unknown ∷ es) = broken 2

-- "It checks by the reader's rules and numbers"; "10 first"
unfoldable pub check_list : List Entry → Verdict
check_list es = choose (ltb 65536 (list_size es)) (refused 10 none) (check_records none (records_of es))

-- ---- the result
-- refused with a number, an offset and the row; or accepted with the items
pub data Result : Type 0 where
  refusal : (number offset row : ℕ) → Result
  acceptance : Items → Result

-- how many items there are
unfoldable pub count : Items → ℕ
count none = zero
count (after before x) = suc (count before)

-- "its offset is where the faulty record would have begun"; "12 (offset 0), lent output too short, last"
unfoldable pub told_by : Verdict → ℕ → Result
told_by (refused n before) room = refusal n (size before) (count before)
told_by (accepted xs) room = choose (leb (size xs) room) (acceptance xs) (refusal 12 0 0)

unfoldable pub result : List Entry → ℕ → Result
result es room = told_by (check_list es) room

-- "output stays past the records, and whole on any refusal"
unfoldable pub output_after : Result → List ℕ → List ℕ
output_after (refusal number offset row) out = out
output_after (acceptance xs) out = over (trace_of xs) out

-- the answer in numbers: no refusal has number 0, and what is not told is 0
abbrev pub told : Result → Written
told (refusal number offset row) = record { refusal = number; offset = offset; row = row; len = 0 }
told (acceptance xs) = record { refusal = 0; offset = 0; row = 0; len = size xs }
