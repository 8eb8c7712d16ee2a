-- What a row says depends on its own numbers only.
use Prim.Native.Nat.{ℕ, ◌+◌, ◌*◌, ◌<◌}
use mathlib.Core.Path.{◌≡◌, refl, ap, ◌∙◌}
use mathlib.Core.Bool.{Bool}
use mathlib.Core.List.{List}
use native.Mathlib.Nat.{add-zero}
use native.Mathlib.Omega.{arith}
use lib.Dec.{eqb}
use lib.ListN.{get_or}
use Rattle.lists.specs.Search.{All, nil, cons}
use Rattle.lists.specs.Table.{update}
use Rattle.lists.proofs.Tests.{either}
use Rattle.event.specs.Event.{event, drain}
use Rattle.trace.specs.Item.{shape, word, request, act}
use Rattle.trace.specs.Table.{Row, no_row, first_row, kind_row}
use Rattle.trace.specs.Table as T
use Rattle.writing.specs.Rows.{Rows, kind_at, cell, picked, entry_of, entry, known}

-- ---- a row's own numbers
-- what holds of each row of the table, and where there is none, holds of the row that is found
first_any : {P : Row → Type 0} (test : Row → Bool) {rs : List Row} → P no_row → All P rs → P (first_row test rs)
unfolding first_row
first_any test none nil = none
first_any {P} test none (cons {x = r} p ps) = either P (test r) p (first_any test none ps)

-- the numbers of one row are those of another
pub record SameNumbers (r r' : Rows) (i i' : ℕ) : Type 0 where
  pub heads-are : (k : ℕ) → k < 2 → get_or r.heads (2 * i + k) 0 ≡ get_or r'.heads (2 * i' + k) 0
  pub bytes-are : (k : ℕ) → k < 10 → get_or r.bytes (10 * i + k) 0 ≡ get_or r'.bytes (10 * i' + k) 0
  pub words_are : (k : ℕ) → k < 8 → get_or r.words (8 * i + k) 0 ≡ get_or r'.words (8 * i' + k) 0

cells_same : (r r' : Rows) (i i' : ℕ) → SameNumbers r r' i i' → All (λ (x : Row). entry_of x (cell r i) ≡ entry_of x (cell r' i')) T.rows
unfolding T.rows entry_of picked update cell
cells_same r r' i i' same =
    let b0 = same.bytes-are 0 (omega arith) in
    let b1 = same.bytes-are 1 (omega arith) in
    let b2 = same.bytes-are 2 (omega arith) in
    let w0 = same.words_are 0 (omega arith) in
    let w1 = same.words_are 1 (omega arith) in
    let h1 : get_or r.heads (2 * i + 1 + 0) 0 ≡ get_or r'.heads (2 * i' + 1 + 0) 0 =
    rw (add-zero (2 * i + 1), add-zero (2 * i' + 1)) (same.heads-are 1 (omega arith)) in
    cons (λ t. known (shape (record { k = b0 t; q = b1 t; w = b2 t })))
    (cons (λ t. known (word (record { address = b0 t; value = w0 t })))
    (cons (λ t. known (request (record { engine = b0 t; operation = b1 t; address = b2 t; first = w0 t; second = w1 t })))
    (cons (λ t. known (act (event (record { what = b0 t; level = b1 t; position = b2 t }))))
    (cons (λ t. known (act (drain (h1 t)))) nil))))

pub entry-same : (r r' : Rows) (i i' : ℕ) → SameNumbers r r' i i' → entry r i ≡ entry r' i'
unfolding entry kind_row cell entry_of
entry-same r r' i i' same =
    let kind : kind_at r i ≡ kind_at r' i' = rw (add-zero (2 * i), add-zero (2 * i')) at (same.heads-are 0 (omega arith)) in
    ap (λ (k : ℕ). entry_of (kind_row k) (cell r i)) kind
    ∙ first_any {P = λ (x : Row). entry_of x (cell r i) ≡ entry_of x (cell r' i')} (λ x. eqb (kind_at r' i') x.kind) refl (cells_same r r' i i' same)
