-- Items written: document 01, "Trace records".
use Rattle.std.specs.Prelude.{ℕ, zero, suc, ◌/◌, ◌%◌, List, [], ◌∷◌, ◌++◌}
use Rattle.trace.specs.Item.{Item, Items, none, after}
use Rattle.trace.specs.Table.{body_size, parts_of, row_of}

-- a number in `count` bytes, least significant first
unfoldable pub bytes : ℕ → ℕ → List ℕ
bytes zero v = []
bytes (suc count) v = v % 256 ∷ bytes count (v / 256)

-- fields, each of its width in bytes
unfoldable pub field_bytes : List ℕ → List ℕ → List ℕ
field_bytes [] fields = []
field_bytes (width ∷ widths) [] = []
field_bytes (width ∷ widths) (field ∷ fields) = bytes width field ++ field_bytes widths fields

-- "body length (2 bytes), kind (2 bytes), body"
unfoldable pub record_of : Item → List ℕ
record_of x = bytes 2 (body_size (row_of x)) ++ (bytes 2 (row_of x).kind ++ field_bytes (row_of x).widths (parts_of x).fields)

-- record after record
unfoldable pub trace_of : Items → List ℕ
trace_of none = []
trace_of (after before x) = trace_of before ++ record_of x
