-- A trace cut into records: document 01, "Trace records" and "What a trace is told".
use Rattle.std.specs.Prelude.{ℕ, zero, suc, ◌+◌, ◌-◌, List, not, length, take, drop, ltb, eqb}
use Rattle.lists.specs.Choice.{choose}
use Rattle.trace.specs.Bytes.{number}
use Rattle.trace.specs.Item.{Item}
use Rattle.trace.specs.Table.{is_row, kind_row, body_row, item}

-- what stands where a record is due: nothing; a record that is faulty in itself, by its number; or a whole one, its kind and its body
pub data Split : Type 0 where
  nothing : Split
  faulty : ℕ → Split
  whole : ℕ → List ℕ → Split

-- "Each record: body length (2 bytes), kind (2 bytes), body"; "1 for the header, 2, 3, 1 for the body"
unfoldable pub split : List ℕ → Split
split bytes =
    choose (eqb (length bytes) 0) nothing
    (choose (ltb (length bytes) 4) (faulty 1)
    (choose (not (is_row (kind_row (number 2 bytes 2)))) (faulty 2)
    (choose (not (is_row (body_row (number 2 bytes 2) (number 2 bytes 0)))) (faulty 3)
    (choose (ltb (length bytes - 4) (number 2 bytes 0)) (faulty 1)
    (whole (number 2 bytes 2) (take (number 2 bytes 0) (drop 4 bytes)))))))

-- its items in their order, up to the end, or up to a record that is faulty in itself, by its number
pub data Records : Type 0 where
  done : Records
  broken : ℕ → Records
  next : Item → Records → Records

-- what stands first, and the rest behind it: 4 bytes of header, then the body
unfoldable pub divided : Split → (List ℕ → Records) → List ℕ → Records
divided nothing rest bytes = done
divided (faulty n) rest bytes = broken n
divided (whole kind body) rest bytes = next (item kind body) (rest (drop (4 + length body) bytes))

-- at most `most` records; a list of n bytes has no more than n
unfoldable pub records_up_to : ℕ → List ℕ → Records
records_up_to zero bytes = done
records_up_to (suc most) bytes = divided (split bytes) (records_up_to most) bytes

-- a trace cut into its records
unfoldable pub records : List ℕ → Records
records bytes = records_up_to (length bytes) bytes
