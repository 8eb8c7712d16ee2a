-- The table of records, a row for each kind and length: document 01, "Trace records". Size, reading and writing follow from it.
use Rattle.std.specs.Prelude.{ℕ, ◌+◌, Bool, not, List, [], ◌∷◌, length, get_or, eqb}
use Rattle.lists.specs.Choice.{choose, both}
use Rattle.event.specs.Event.{event, drain}
use Rattle.trace.specs.Bytes.{fields_in, total}
use Rattle.trace.specs.Item.{Item, shape, word, request, act, Items, none, after}

-- "kind", the section in which its records stand, from 1; "body", the widths of its fields in bytes; and the item with such fields
pub record Row : Type 0 where
  pub kind : ℕ
  pub section : ℕ
  pub widths : List ℕ
  pub make : List ℕ → Item

abbrev pub row : ℕ → ℕ → List ℕ → (List ℕ → Item) → Row
row kind section widths make = record { kind = kind; section = section; widths = widths; make = make }

-- "1 shape: k, Q, W, one byte each"
abbrev pub shape_row : Row
shape_row = row 1 1 (1 ∷ 1 ∷ 1 ∷ []) (λ f. shape (record { k = get_or f 0 0; q = get_or f 1 0; w = get_or f 2 0 }))

-- "2 word: address 1, value 8"
abbrev pub word_row : Row
word_row = row 2 2 (1 ∷ 8 ∷ []) (λ f. word (record { address = get_or f 0 0; value = get_or f 1 0 }))

-- "3 request: engine 1, operation 1, address 1, first operand 8, second operand 8"
abbrev pub request_row : Row
request_row = row 3 3 (1 ∷ 1 ∷ 1 ∷ 8 ∷ 8 ∷ [])
    (λ f. request (record { engine = get_or f 0 0; operation = get_or f 1 0; address = get_or f 2 0; first = get_or f 3 0; second = get_or f 4 0 }))

-- "4 event: what 1, level 1, position 1"
abbrev pub event_row : Row
event_row = row 4 4 (1 ∷ 1 ∷ 1 ∷ []) (λ f. act (event (record { what = get_or f 0 0; level = get_or f 1 0; position = get_or f 2 0 })))

-- "5 drain: most rounds allowed", two bytes
abbrev pub drain_row : Row
drain_row = row 5 4 (2 ∷ []) (λ f. act (drain (get_or f 0 0)))

unfoldable pub rows : List Row
rows = shape_row ∷ word_row ∷ request_row ∷ event_row ∷ drain_row ∷ []

-- "body bytes"
abbrev pub body_size : Row → ℕ
body_size r = total r.widths

-- ---- which row
-- what stands for none: no row has section 0
abbrev pub no_row : Row
no_row = row 0 0 [] (λ f. act (drain 0))

abbrev pub is_row : Row → Bool
is_row r = not (eqb r.section 0)

unfoldable pub first_row : (Row → Bool) → List Row → Row
first_row test [] = no_row
first_row test (r ∷ rs) = choose (test r) r (first_row test rs)

-- a row of a kind; the row of a kind and a body's length together
unfoldable pub kind_row : ℕ → Row
kind_row kind = first_row (λ r. eqb kind r.kind) rows

unfoldable pub body_row : ℕ → ℕ → Row
body_row kind len = first_row (λ r. both (eqb kind r.kind) (eqb len (body_size r))) rows

-- what a body of a kind says
unfoldable pub item : ℕ → List ℕ → Item
item kind b = (body_row kind (length b)).make (fields_in (body_row kind (length b)).widths b 0)

-- ---- an item's row and fields
pub record Parts : Type 0 where
  pub row : Row
  pub fields : List ℕ

unfoldable pub parts_of : Item → Parts
parts_of (shape s) = record { row = shape_row; fields = s.k ∷ s.q ∷ s.w ∷ [] }
parts_of (word w) = record { row = word_row; fields = w.address ∷ w.value ∷ [] }
parts_of (request r) = record { row = request_row; fields = r.engine ∷ r.operation ∷ r.address ∷ r.first ∷ r.second ∷ [] }
parts_of (act (event e)) = record { row = event_row; fields = e.what ∷ e.level ∷ e.position ∷ [] }
parts_of (act (drain rounds)) = record { row = drain_row; fields = rounds ∷ [] }

abbrev pub row_of : Item → Row
row_of x = (parts_of x).row

-- "one shape; words; requests; events and drains mixed": the section where an item stands
abbrev pub section : Item → ℕ
section x = (row_of x).section

-- how many bytes an item's record has: "The length counts the body only"
unfoldable pub record_size : Item → ℕ
record_size x = 4 + body_size (row_of x)

-- how many bytes items have
unfoldable pub size : Items → ℕ
size none = 0
size (after before x) = size before + record_size x
