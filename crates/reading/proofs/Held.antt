-- Laws of items held in rows: one item more, in the next row or where there is none.
use Prim.Native.Nat.{ℕ, suc, ◌≤◌, ◌<◌}
use mathlib.Core.Path.{◌≡◌, refl, sym, ap, ap₂, ◌∙◌}
use mathlib.Core.List.{List, [], ◌∷◌, ◌++◌, map}
use native.Mathlib.Omega.{arith}
use lib.ListN.{length, length-append}
use lib.Seq.{take_all, take-append-le}
use Rattle.lists.specs.Table.{list_below}
use Rattle.lists.proofs.Maps.{map-append}
use Rattle.lists.proofs.Below.{below-same}
use Rattle.trace.specs.Item.{Item}
use Rattle.writing.specs.Rows.{Rows, row_count, Entry, known, entry}
use Rattle.reading.specs.Inner.Row.{item_of, SameSizes, RowPut}
use Rattle.reading.specs.Inner.Walk.{RowsHold}

-- ---- how many rows
pub same_count : (r r' : Rows) → SameSizes r r' → row_count r' ≡ row_count r
unfolding row_count
same_count r r' same = rw (same.heads-size, same.bytes-size, same.words_size)

pub same_then : {r r' r'' : Rows} → SameSizes r r' → SameSizes r' r'' → SameSizes r r''
same_then a b = record {
  heads-size = b.heads-size ∙ a.heads-size;
  bytes-size = b.bytes-size ∙ a.bytes-size;
  words_size = b.words_size ∙ a.words_size;
}

pub same-sizes : (r : Rows) → SameSizes r r
same-sizes r = record { heads-size = refl; bytes-size = refl; words_size = refl }

-- ---- one item more
pub holds-none : (r : Rows) → RowsHold r [] 0 r
unfolding list_below
holds-none r = record { many = omega arith; hold = refl; sizes = same-sizes r }

module _ {before : Rows} {xs : List Item} {n : ℕ} {r : Rows} (held : RowsHold before xs n r) where
  -- no row is left
  pub holds-full : (x : Item) → row_count r ≤ n → RowsHold before (xs ++ (x ∷ [])) n r
  holds-full x full = record {
    many = omega (arith, held.many, same_count before r held.sizes, length-append xs (x ∷ []));
    hold = ap (map known) (take-append-le n xs (x ∷ []) (omega (arith, held.many))) ∙ held.hold;
    sizes = held.sizes;
  }

  -- the next row has it
  pub holds_more : {kind : ℕ} {values : List ℕ} {r' : Rows} → n < row_count r → RowPut kind values n r r' →
      RowsHold before (xs ++ (item_of kind values ∷ [])) (suc n) r'
  unfolding list_below
  holds_more {kind} {values} {r'} room put =
      let x = item_of kind values in
      let long = length-append xs (x ∷ []) in
      let counts = same_count before r held.sizes in
      let short : length (xs ++ (x ∷ [])) ≤ suc n = omega (arith, held.many, counts, long) in
      let fits : length xs ≤ n = omega (arith, held.many, counts) in
      record {
        many = omega (arith, held.many, counts, long);
        hold = ap (map known) (take_all (suc n) (xs ++ (x ∷ [])) short)
            ∙ map-append known xs (x ∷ [])
            ∙ ap₂ (λ (es : List Entry) (e : Entry). es ++ (e ∷ []))
            (ap (map known) (sym (take_all n xs fits)) ∙ held.hold ∙ below-same n (entry r) (entry r') (λ j l. sym (put.others j (omega arith))))
            (sym put.row_is);
        sizes = same_then held.sizes put.sizes;
      }
