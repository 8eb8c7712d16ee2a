-- What a row says, and the bytes of its record.
use Prim.Native.Nat.{ℕ, zero, suc, ◌+◌, ◌*◌, ◌<◌, ◌^◌}
use mathlib.Core.Path.{◌≡◌, refl, ap, sym, ◌∙◌, subst}
use mathlib.Core.Bool.{Bool, true, false}
use mathlib.Core.List.{List, [], ◌∷◌, ◌++◌}
use native.Mathlib.Omega.{arith}
use lib.ListN.{length, get_or}
use lib.Dec.{eqb}
use borrow.Author.Tests.{eqb-true}
use Rattle.lists.specs.Choice.{choose, both}
use Rattle.lists.specs.Table.{update}
use Rattle.lists.specs.Search.{some, All, nil, cons}
use Rattle.lists.proofs.Tests.{both_true, clash}
use Rattle.trace.specs.Bytes.{total}
use Rattle.trace.specs.Item.{Item}
use Rattle.trace.specs.Table.{Row, rows, body_size, is_row, body_row, item, Parts, parts_of, row_of, record_size}
use Rattle.trace.specs.Write.{bytes, field_bytes, record_of}
use Rattle.trace.specs.Inner.Fits.{FieldsFit, no_field, field_fits, FitsBytes}
use Rattle.trace.specs.Inner.Known.{Bodied}
use Rattle.trace.proofs.Fields.{length-field-bytes}
use Rattle.trace.proofs.Table.{kind-all, kind-right, kind-found, kind-none}
use Rattle.trace.proofs.Written.{body_of, item-body}
use Rattle.writing.specs.Rows.{Rows, kind_at, cell, picked, known, unknown, entry_of, entry}
use Rattle.writing.specs.Writing.{entry_size}
use Rattle.writing.specs.Inner.Records.{row_at, fields_at, body_at, record_at, Typed}

-- each width is 1, 2 or 8
abbrev is_width : ℕ → Bool
is_width w = some (eqb w) (1 ∷ 2 ∷ 8 ∷ [])

are_widths : List ℕ → Bool
are_widths [] = true
are_widths (w ∷ ws) = both (is_width w) (are_widths ws)

-- ---- lengths, whatever the kind
pub length-picked : (cells : ℕ → ℕ → ℕ) (used : ℕ → ℕ) (widths : List ℕ) → length (picked cells used widths) ≡ length widths
unfolding picked
length-picked cells used [] = refl
length-picked cells used (w ∷ ws) = ap suc (length-picked cells (update used w (suc (used w))) ws)

module _ (r : Rows) (i : ℕ) where
  length_fields : length (fields_at r i) ≡ length (row_at r i).widths
  length_fields = length-picked (cell r i) (λ width. zero) (row_at r i).widths

  pub length-body-at : length (body_at r i) ≡ body_size (row_at r i)
  unfolding body_at
  length-body-at = length-field-bytes (row_at r i).widths (fields_at r i) length_fields

  pub length-record-at : length (record_at r i) ≡ 4 + body_size (row_at r i)
  unfolding record_at bytes
  length-record-at = omega (arith, length-body-at)

-- ---- numbers as wide as their slices fit their fields
-- the table has no other
rows-widths : All (λ (row : Row). are_widths row.widths ≡ true) rows
unfolding rows are_widths some
rows-widths = cons refl (cons refl (cons refl (cons refl (cons refl nil))))

picked_fits : (cells : ℕ → ℕ → ℕ) → ((w j : ℕ) → is_width w ≡ true → cells w j < 256 ^ w) → (used : ℕ → ℕ) (widths : List ℕ) →
    are_widths widths ≡ true → FieldsFit widths (picked cells used widths)
unfolding picked are_widths
picked_fits cells low used [] h = no_field
picked_fits cells low used (w ∷ ws) h =
    let b = both_true (is_width w) (are_widths ws) h in
    field_fits (low w (used w) b.0) (picked_fits cells low (update used w (suc (used w))) ws b.1)

cell-low : {r : Rows} → Typed r → (i w j : ℕ) → is_width w ≡ true → cell r i w j < 256 ^ w
unfolding some cell
cell-low {r} typed i w j h = go (eqb w 1) refl (eqb w 2) refl (eqb w 8) refl h
  where
    go : (one : Bool) → eqb w 1 ≡ one → (two : Bool) → eqb w 2 ≡ two → (eight : Bool) → eqb w 8 ≡ eight →
        choose one true (choose two true (choose eight true false)) ≡ true →
        choose one (get_or r.bytes (10 * i + j) 0) (choose two (get_or r.heads (2 * i + 1 + j) 0) (get_or r.words (8 * i + j) 0)) < 256 ^ w
    go true e₁ two e₂ eight e₈ h = rw (eqb-true w 1 e₁) (typed.bytes_low (10 * i + j))
    go false e₁ true e₂ eight e₈ h = rw (eqb-true w 2 e₂) (typed.heads-low (2 * i + 1 + j))
    go false e₁ false e₂ true e₈ h = rw (eqb-true w 8 e₈) (typed.words-low (8 * i + j))
    go false e₁ false e₂ false e₈ h = clash (cc)

-- ---- a row whose kind there is
module _ (r : Rows) (i : ℕ) (is : is_row (row_at r i) ≡ true) where
  abbrev pub item_at : Item
  item_at = (row_at r i).make (fields_at r i)

  -- the row says its item
  pub entry_known : entry r i ≡ known item_at
  unfolding entry entry_of
  entry_known = rw is

  -- the item's row of the table, its fields, and so its bytes and its size
  pub parts_at : parts_of item_at ≡ record { row = row_at r i; fields = fields_at r i }
  parts_at = (kind-right (kind_at r i) is).back (fields_at r i) (length_fields r i)

  pub row-at : row_of item_at ≡ row_at r i
  row-at = ap (λ (p : Parts). p.row) parts_at

  pub body_is : body_of item_at ≡ body_at r i
  unfolding body_at
  body_is = ap (λ (p : Parts). field_bytes p.row.widths p.fields) parts_at

  pub record_is : record_of item_at ≡ record_at r i
  unfolding record_of record_at body_at
  record_is =
      ap (λ (p : Parts). bytes 2 (body_size p.row) ++ (bytes 2 p.row.kind ++ field_bytes p.row.widths p.fields)) parts_at
      ∙ ap (λ (k : ℕ). bytes 2 (body_size (row_at r i)) ++ (bytes 2 k ++ field_bytes (row_at r i).widths (fields_at r i))) (sym (kind-found (kind_at r i) is))

  pub size-at : record_size item_at ≡ 4 + body_size (row_at r i)
  unfolding record_size
  size-at = ap (λ (row : Row). 4 + body_size row) row-at

  pub fits-at : Typed r → FitsBytes item_at
  fits-at typed =
      subst (λ (p : Parts). FieldsFit p.row.widths p.fields) (sym parts_at)
      (picked_fits (cell r i) (cell-low typed i) (λ width. zero) (row_at r i).widths (kind-all rows-widths (kind_at r i) is))

  -- its body is one that the reader takes, and says the item
  pub bodied-at : Bodied (kind_at r i) (body_at r i)
  bodied-at =
      let right = kind-right (kind_at r i) is in
      let found : body_row (kind_at r i) (length (body_at r i)) ≡ row_at r i =
      ap (body_row (kind_at r i)) (length-body-at r i) ∙ ap (λ (k : ℕ). body_row k (body_size (row_at r i))) (kind-found (kind_at r i) is) ∙ right.found in
      record { right = rw found right.is-row }

  pub item-at : Typed r → item (kind_at r i) (body_at r i) ≡ item_at
  item-at typed =
      ap (item (kind_at r i)) (sym body_is)
      ∙ ap (λ (k : ℕ). item k (body_of item_at)) (kind-found (kind_at r i) is ∙ ap (λ (row : Row). row.kind) (sym row-at))
      ∙ item-body item_at (fits-at typed)

-- ---- and a row whose kind there is not
module _ (r : Rows) (i : ℕ) (is : is_row (row_at r i) ≡ false) where
  pub entry-unknown : entry r i ≡ unknown
  unfolding entry entry_of
  entry-unknown = rw is

-- ---- the size that a row counts
pub entry-size : (r : Rows) (i : ℕ) → entry_size (entry r i) ≡ 4 + body_size (row_at r i)
unfolding entry_size total
entry-size r i = go (is_row (row_at r i)) refl
  where
    go : (t : Bool) → is_row (row_at r i) ≡ t → entry_size (entry r i) ≡ 4 + body_size (row_at r i)
    go true e = rw (entry_known r i e) (size-at r i e)
    go false e = rw (entry-unknown r i e, kind-none (kind_at r i) e)
