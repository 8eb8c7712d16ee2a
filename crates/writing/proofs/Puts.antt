-- A record behind its header, and record behind record.
use Prim.Native.Nat.{ℕ, zero, suc, ◌+◌, ◌≤◌, ◌<◌}
use mathlib.Core.Path.{◌≡◌, refl, ◌∙◌}
use native.Mathlib.Numerals.{add-one}
use native.Mathlib.Omega.{arith}
use lib.ListN.{length, length-append}
use Rattle.digits.specs.Inner.Buffer.{HasRoom, Writes}
use Rattle.digits.specs.declared.LentBuffer.{LentBuffer}
use Rattle.digits.proofs.Buffer.{writes_nothing, writes_then, size-kept}
use Rattle.trace.specs.Table.{body_size}
use Rattle.trace.specs.Write.{bytes}
use Rattle.writing.specs.Rows.{Rows, row_count, kind_at}
use Rattle.writing.specs.Inner.Records.{row_at, body_at, record_at, records_to, RowIn}
use Rattle.writing.specs.Inner.Sizes.{size_to}
use Rattle.writing.proofs.Entries.{length-record-at}
use Rattle.writing.proofs.Sizes.{size-grows}

-- the records of the first i of n rows are written
pub record Put (r : Rows) (n : ℕ) (start out : LentBuffer) (i : ℕ) : Type 0 where
  pub low : i ≤ n
  pub writes : Writes start (records_to r i) out

-- a row's record is written where the size of its body, its kind and its body are written
pub record-writes : (r : Rows) (i : ℕ) {size kind : ℕ} → size ≡ body_size (row_at r i) → kind ≡ kind_at r i → {out first second after : LentBuffer} →
    Writes out (bytes 2 size) first → Writes first (bytes 2 kind) second → Writes second (body_at r i) after → Writes out (record_at r i) after
unfolding record_at
record-writes r i s k w v u = rw (← s, ← k) (writes_then w (writes_then v u))

-- a row that is counted stands whole in all slices
pub row_in : (r : Rows) (i : ℕ) → i < row_count r → RowIn r i
unfolding row_count
row_in r i l = record { heads-in = omega arith; bytes-in = omega arith; words-in = omega arith }

-- the records are as long as the kinds say
pub length-records : (r : Rows) (n : ℕ) → length (records_to r n) ≡ size_to r.heads n
unfolding records_to size_to
length-records r zero = refl
length-records r (suc n) = length-append (records_to r n) (record_at r n) ∙ omega (arith, length-records r n, length-record-at r n)

-- ---- the records of the rows: none yet, room for the next one, one more, all
module _ (r : Rows) (n : ℕ) (start : LentBuffer) where
  pub put-start : Put r n start start 0
  unfolding records_to
  put-start = record { low = omega arith; writes = writes_nothing start }

  module _ {out : LentBuffer} {i : ℕ} (p : Put r n start out i) (l : i < n) where
    pub put-room : HasRoom start (length (records_to r n)) → HasRoom out (4 + body_size (row_at r i))
    unfolding size_to
    put-room room =
        omega (arith, size-kept p.writes, p.writes.wrote.behind, length-records r i, size-grows r.heads (suc i) n l, length-records r n, room)

    pub put-more : {out' : LentBuffer} → Writes out (record_at r i) out' → Put r n start out' (i + 1)
    unfolding records_to
    put-more w = record { low = omega arith; writes = rw (add-one i) (writes_then p.writes w) }

  pub put-done : {out : LentBuffer} {i : ℕ} → Put r n start out i → n ≤ i → Writes start (records_to r n) out
  put-done {out} {i} p h = let e : i ≡ n = omega (arith, p.low) in rw e at p.writes
