-- The body of each kind's record, by the numbers of its row.
use Prim.Native.Nat.{ℕ, suc, ◌+◌, ◌*◌, ◌<◌}
use mathlib.Core.Path.{◌≡◌, ap, sym, ◌∙◌}
use mathlib.Core.Bool.{false}
use mathlib.Core.List.{List, [], ◌∷◌, ◌++◌, append-nil, append_assoc}
use native.Mathlib.Nat.{add-zero, mod-eq_of_lt}
use native.Mathlib.Numerals.{add-one}
use native.Mathlib.Omega.{arith}
use lib.ListN.{length, get_or, take, drop}
use lib.Seq.{drop-cons}
use Rattle.lists.specs.Table.{update}
use Rattle.trace.specs.Bytes.{total}
use Rattle.trace.specs.Table.{rows, first_row, body_size, is_row, kind_row}
use Rattle.trace.specs.Write.{bytes, field_bytes}
use Rattle.trace.specs.Inner.Kinds.{number_of_kind}
use Rattle.trace.specs.declared.kind.RecordKind.{RecordKind}
use Rattle.trace.proofs.Table.{kind-none}
use Rattle.writing.specs.Rows.{Rows, kind_at, cell, picked}
use Rattle.writing.specs.Inner.Records.{row_at, body_at, RowIn, Typed}

-- numbers of one byte each, as they stand in a row
one_of : (l : List ℕ) (b : ℕ) → b < length l → take 1 (drop b l) ≡ get_or l (b + 0) 0 ∷ []
one_of l b h = rw (add-zero, drop-cons l b 0 h)

three-of : (l : List ℕ) (b : ℕ) → b + 2 < length l → take 3 (drop b l) ≡ get_or l (b + 0) 0 ∷ get_or l (b + 1) 0 ∷ get_or l (b + 2) 0 ∷ []
three-of l b h =
    let two : b + 2 ≡ suc (suc b) = omega arith in
    rw (add-zero, add-one b, two, drop-cons l b 0 (omega arith), drop-cons l (suc b) 0 (omega arith), drop-cons l (suc (suc b)) 0 (omega arith))

-- the kind that a row's number tells
pub told_kind : {n m : ℕ} {kind k : RecordKind} → number_of_kind kind ≡ n → n ≡ m → kind ≡ k → m ≡ number_of_kind k
told_kind told is e = sym (told ∙ is) ∙ ap number_of_kind e

-- how long the body of row i's record is, and its bytes
pub record BodyIs (r : Rows) (i n : ℕ) (text : List ℕ) : Type 0 where
  pub size : body_size (row_at r i) ≡ n
  pub text-is : body_at r i ≡ text

module _ {r : Rows} {i : ℕ} (typed : Typed r) (inside : RowIn r i) where
  abbrev ones : ℕ → List ℕ
  ones count = take count (drop (10 * i) r.bytes)

  -- a field of one byte
  single : (j : ℕ) → bytes 1 (get_or r.bytes (10 * i + j) 0) ≡ get_or r.bytes (10 * i + j) 0 ∷ []
  unfolding bytes
  single j = rw (mod-eq_of_lt {n = get_or r.bytes (10 * i + j) 0} {m = 256} (typed.bytes_low (10 * i + j)))

  -- the first fields of one byte
  three : bytes 1 (get_or r.bytes (10 * i + 0) 0) ++ (bytes 1 (get_or r.bytes (10 * i + 1) 0) ++ bytes 1 (get_or r.bytes (10 * i + 2) 0)) ≡ ones 3
  three = rw (single 0, single 1, single 2) (sym (three-of r.bytes (10 * i) (omega (arith, inside.bytes-in))))

  one : bytes 1 (get_or r.bytes (10 * i + 0) 0) ≡ ones 1
  one = single 0 ∙ sym (one_of r.bytes (10 * i) (omega (arith, inside.bytes-in)))

  -- ---- kind by kind
  pub body-shape : kind_at r i ≡ 1 → BodyIs r i 3 (ones 3)
  unfolding body_at rows first_row kind_row picked cell update field_bytes total
  body-shape k = record { size = rw k; text-is = rw (k, append-nil) three }

  pub body-word : kind_at r i ≡ 2 → BodyIs r i 9 (ones 1 ++ bytes 8 (get_or r.words (8 * i + 0) 0))
  unfolding body_at rows first_row kind_row picked cell update field_bytes total
  body-word k = record { size = rw k; text-is = rw (k, append-nil, one) }

  pub body-request : kind_at r i ≡ 3 → BodyIs r i 19 ((ones 3 ++ bytes 8 (get_or r.words (8 * i + 0) 0)) ++ bytes 8 (get_or r.words (8 * i + 1) 0))
  unfolding body_at rows first_row kind_row picked cell update field_bytes total
  body-request k = record { size = rw k; text-is = rw (k, append-nil, ← three) (simp append_assoc) }

  pub body-event : kind_at r i ≡ 4 → BodyIs r i 3 (ones 3)
  unfolding body_at rows first_row kind_row picked cell update field_bytes total
  body-event k = record { size = rw k; text-is = rw (k, append-nil) three }

  pub body-drain : kind_at r i ≡ 5 → BodyIs r i 2 (bytes 2 (get_or r.heads (2 * i + 1) 0))
  unfolding body_at rows first_row kind_row picked cell update field_bytes total
  body-drain k = record { size = rw k; text-is = rw (k, append-nil, add-zero) }

-- a kind that there is none of
pub no-body : (r : Rows) (i : ℕ) → is_row (row_at r i) ≡ false → BodyIs r i 0 []
unfolding body_at picked field_bytes total
no-body r i e = record { size = rw (kind-none (kind_at r i) e); text-is = rw (kind-none (kind_at r i) e) }
