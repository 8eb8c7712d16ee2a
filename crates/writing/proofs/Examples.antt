-- Document 01's session and some refusals, written from rows and computed on the definitions.
use Prim.Native.Nat.{ℕ}
use mathlib.Core.Path.{◌≡◌, refl}
use mathlib.Core.List.{List, [], ◌∷◌, ◌++◌}
use lib.ListN.{get_or}
use Rattle.lists.specs.Search.{some}
use Rattle.lists.specs.Table.{update, list_below}
use Rattle.operation.specs.Operation.{operands_fit}
use Rattle.event.specs.Event.{level_fits, names_step}
use Rattle.trace.specs.Bytes as B
use Rattle.trace.specs.Table as I
use Rattle.trace.specs.Contents as C
use Rattle.trace.specs.Refusals as F
use Rattle.trace.specs.Check as K
use Rattle.writing.specs.Rows as R
use Rattle.writing.specs.Rows.{Rows, rows, entries}
use Rattle.writing.specs.Writing as W
use Rattle.writing.specs.Writing.{Result, refusal, result, told}

-- ---- rows
-- the first numbers of a row, and zeros up to its width
abbrev filled : ℕ → List ℕ → List ℕ
filled width numbers = list_below width (λ i. get_or numbers i 0)

-- a row in front of rows: its kind, its numbers of one byte and of eight
abbrev line : ℕ → List ℕ → List ℕ → Rows → Rows
line kind ones eights rest = rows (kind ∷ 0 ∷ rest.heads) (filled 10 ones ++ rest.bytes) (filled 8 eights ++ rest.words)

abbrev end : Rows
end = rows [] [] []

abbrev shape : ℕ → ℕ → ℕ → Rows → Rows
shape k q w = line 1 (k ∷ q ∷ w ∷ []) []

abbrev word : ℕ → ℕ → Rows → Rows
word a value = line 2 (a ∷ []) (value ∷ [])

abbrev add : ℕ → ℕ → ℕ → Rows → Rows
add e a first = line 3 (e ∷ 2 ∷ a ∷ []) (first ∷ 0 ∷ [])

abbrev event : ℕ → ℕ → ℕ → Rows → Rows
event what level p = line 4 (what ∷ level ∷ p ∷ []) []

-- ---- results
-- the result of writing rows; to unfold it is to unfold every definition of the writer
written : Rows → ℕ → Result
unfolding result W.told_by W.check_list W.records_of W.list_size W.entry_size W.count entries R.entry R.entry_of R.picked R.cell R.row_count
    I.rows I.first_row I.kind_row I.parts_of I.record_size I.size B.total C.add C.contents C.last_section K.check_records K.decide K.ended
    F.fault F.own_fault F.or_else F.may_follow F.shape_fits F.request_fits operands_fit level_fits names_step update list_below some
written list room = result (entries list) room

-- "events issue 0, issue 1, module 1, return level 1 position 1 twice, collect 0, collect 1"
abbrev events : Rows
events = event 0 0 0 (event 0 0 1 (event 2 1 1 (event 3 1 1 (event 3 1 1 (event 4 0 0 (event 4 0 1 end))))))

-- "shape (1, 2, 2); word 5 = 100; request engine 0 add 5 at 5; request engine 1 add 7 at 5"
abbrev session : Rows
session = shape 1 2 2 (word 5 100 (add 0 5 5 (add 1 5 7 events)))

session-written : told (written session 115) ≡ record { refusal = 0; offset = 0; row = 0; len = 115 }
unfolding written
session-written = refl

too_short : written session 114 ≡ refusal 12 0 0
unfolding written
too_short = refl

no_item : written end 0 ≡ refusal 4 0 0
unfolding written
no_item = refl

no-such-kind : written (shape 1 2 2 (line 9 [] [] end)) 115 ≡ refusal 2 7 1
unfolding written
no-such-kind = refl

word-twice : written (shape 1 2 2 (word 5 100 (word 5 7 end))) 115 ≡ refusal 6 20 2
unfolding written
word-twice = refl
