-- Rows lent in part: the first n rows of the slices, by themselves, say what they say among the others.
use Prim.Native.Nat.{ℕ, ◌*◌, ◌≤◌, ◌<◌}
use mathlib.Core.Path.{◌≡◌, sym, ap, ◌∙◌}
use mathlib.Core.List.{List, map}
use native.Mathlib.Omega.{arith}
use lib.ListN.{length, take}
use lib.Seq.{get_or-take, length-take-le}
use Rattle.lists.specs.Table.{list_below}
use Rattle.lists.proofs.Below.{below-same}
use Rattle.writing.specs.Rows.{Rows, row_count, known, entry, entries}
use Rattle.reading.specs.Inner.Row.{first_rows}
use Rattle.reading.specs.Inner.Walk.{ItemsRead}
use Rattle.reading.proofs.Rows.{entry-same}

pub lent_row : (n : ℕ) (r : Rows) (i : ℕ) → i < n → entry (first_rows n r) i ≡ entry r i
lent_row n r i l = entry-same (first_rows n r) r i i (record {
  heads-are = λ k h. get_or-take (2 * n) r.heads _ 0 (omega arith);
  bytes-are = λ k h. get_or-take (10 * n) r.bytes _ 0 (omega arith);
  words_are = λ k h. get_or-take (8 * n) r.words _ 0 (omega arith);
})

module _ (n : ℕ) (r : Rows) (heads : 2 * n ≤ length r.heads) (bytes : 10 * n ≤ length r.bytes) (words : 8 * n ≤ length r.words) where
  pub lent-count : row_count (first_rows n r) ≡ n
  unfolding row_count
  lent-count =
      omega (arith, length-take-le (2 * n) r.heads heads, length-take-le (10 * n) r.bytes bytes, length-take-le (8 * n) r.words words)

  pub lent-entries : entries (first_rows n r) ≡ list_below n (entry r)
  unfolding entries
  lent-entries = ap (λ (m : ℕ). list_below m (entry (first_rows n r))) lent-count ∙ below-same n (entry (first_rows n r)) (entry r) (lent_row n r)

-- what was read, lent to the writer
pub lent-items : {text : List ℕ} {before : Rows} {n : ℕ} {r : Rows} (read : ItemsRead text before n r) →
    entries (first_rows n r) ≡ map known (take n read.xs)
lent-items {n = n} {r = r} read = lent-entries n r read.heads-room read.bytes-room read.words-room ∙ sym read.hold
