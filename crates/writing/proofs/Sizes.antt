-- The size of rows' records, by their kinds.
use Prim.Native.Nat.{ℕ, zero, suc, ◌+◌, ◌*◌, ◌≤◌, ◌<◌}
use mathlib.Core.Path.{◌≡◌, refl}
use mathlib.Core.Bool.{Bool, true, false}
use mathlib.Core.List.{List, [], ◌∷◌}
use native.Mathlib.Numerals.{add-one}
use native.Mathlib.Decide.{dec_lt}
use native.Mathlib.Omega.{arith}
use lib.ListN.{get_or}
use lib.Dec.{ltb}
use borrow.Author.Tests.{ltb-true}
use Rattle.lists.specs.Search.{All, nil, cons}
use Rattle.lists.specs.Table.{list_below}
use Rattle.lists.proofs.Tests.{by_cases}
use Rattle.trace.specs.Bytes.{total}
use Rattle.trace.specs.Table.{Row, rows, body_size, is_row, kind_row}
use Rattle.trace.proofs.Table.{kind-all, kind-none}
use Rattle.writing.specs.Rows.{Rows, row_count, entry, entries}
use Rattle.writing.specs.Writing.{list_size}
use Rattle.writing.specs.Inner.Sizes.{size_to}
use Rattle.writing.proofs.Entries.{entry-size}
use Rattle.writing.proofs.Lists.{size-append}

-- one row more; no fewer bytes with more rows; and the size of the list that the rows say
pub size-more : (heads : List ℕ) (i : ℕ) → size_to heads (i + 1) ≡ size_to heads i + (4 + body_size (kind_row (get_or heads (2 * i) 0)))
unfolding size_to
size-more heads i = rw (add-one i)

pub size-grows : (heads : List ℕ) (i n : ℕ) → i ≤ n → size_to heads i ≤ size_to heads n
unfolding size_to
size-grows heads i zero l = let e : i ≡ 0 = omega arith in rw e (omega arith)
size-grows heads i (suc n) l =
    by_cases (dec_lt n i)
    (λ (h : n < i). let e : i ≡ suc n = omega arith in rw e (omega arith))
    (λ (h : ¬ (n < i)). omega (arith, size-grows heads i n (omega arith)))

pub size_is : (r : Rows) (n : ℕ) → size_to r.heads n ≡ list_size (list_below n (entry r))
unfolding size_to list_below list_size
size_is r zero = refl
size_is r (suc n) = omega (arith, size-append (list_below n (entry r)) (entry r n ∷ []), size_is r n, entry-size r n)

pub list-size : (r : Rows) → size_to r.heads (row_count r) ≡ list_size (entries r)
unfolding entries
list-size r = size_is r (row_count r)

-- no body has more than 19 bytes
rows_few : All (λ (row : Row). ltb (body_size row) 20 ≡ true) rows
unfolding rows total
rows_few = cons refl (cons refl (cons refl (cons refl (cons refl nil))))

pub body-few : (kind : ℕ) → body_size (kind_row kind) < 20
unfolding total
body-few kind = go (is_row (kind_row kind)) refl
  where
    go : (t : Bool) → is_row (kind_row kind) ≡ t → body_size (kind_row kind) < 20
    go true e = ltb-true _ _ (kind-all rows_few kind e)
    go false e = rw (kind-none kind e) (omega arith)
