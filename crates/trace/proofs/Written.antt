-- An item's record, written and read: what is written is read back, and of bytes that are read as an item, the item's record is written again.
use Prim.Native.Nat.{ℕ, ◌+◌}
use mathlib.Core.Path.{◌≡◌, refl, ap, sym, ◌∙◌, subst}
use mathlib.Core.Bool.{true}
use mathlib.Core.List.{List, [], ◌++◌, append_assoc, append-nil}
use native.Mathlib.Omega.{arith}
use lib.ListN.{length, take, drop, length-append, take-append-drop}
use lib.Seq.{take-add, take_at, drop_at, take_all}
use Rattle.lists.proofs.Tests.{clash}
use Rattle.trace.specs.Bytes.{AreBytes, fields_in}
use Rattle.trace.specs.Write.{bytes, field_bytes}
use Rattle.trace.specs.Inner.Fits.{FieldsFit}
use Rattle.trace.specs.Item.{Item}
use Rattle.trace.specs.Table.{body_size, is_row, body_row, item, Parts, parts_of, row_of, record_size}
use Rattle.trace.specs.Write.{record_of}
use Rattle.trace.specs.Inner.Fits.{FitsBytes}
use Rattle.trace.specs.Records.{Split, nothing, faulty, whole, split, Records, next, divided, records}
use Rattle.trace.proofs.Numbers.{bytes_drop, bytes_take, bytes-number, number-bytes}
use Rattle.trace.proofs.Fields.{length-field-bytes, fields-written, fields_fit, fields-again}
use Rattle.trace.proofs.Table.{item-right, row_told, row-sizes, item-is, parts-item, kind-item, body-item-size}
use Rattle.trace.proofs.Records.{records-divided, records-whole, Whole, whole_is, is_whole}

-- the body of an item has the size that the table says
abbrev pub body_of : Item → List ℕ
body_of x = field_bytes (row_of x).widths (parts_of x).fields

pub length-body : (x : Item) → length (body_of x) ≡ body_size (row_of x)
length-body x = length-field-bytes (row_of x).widths (parts_of x).fields (item-right x).many

pub length-record : (x : Item) → length (record_of x) ≡ record_size x
unfolding record_of record_size bytes
length-record x = omega (arith, length-body x)

-- the row that is told of an item's body is the item's
row-of-body : (x : Item) → body_row (row_of x).kind (length (body_of x)) ≡ row_of x
row-of-body x = rw (length-body x) (item-right x).row-right.found

-- the body of an item says that item
pub item-body : (x : Item) → FitsBytes x → item (row_of x).kind (body_of x) ≡ x
item-body x fits =
    let read : fields_in (row_of x).widths (body_of x) 0 ≡ (parts_of x).fields = rw append-nil at (fields-written fits [] []) in
    item-is (row_of x).kind (body_of x) (row-of-body x) ∙ ap (row_of x).make read ∙ (item-right x).made

whole-record : (x : Item) (back : List ℕ) → Whole (record_of x ++ back) (row_of x).kind (body_of x)
unfolding record_of bytes
whole-record x back =
    let sizes = row-sizes (row_of x) (item-right x).row-right in
    record {
      kind-is = number-bytes 2 (row_of x).kind (bytes 2 (body_size (row_of x))) (body_of x ++ back) sizes.kind-low;
      size_is = number-bytes 2 (body_size (row_of x)) [] (bytes 2 (row_of x).kind ++ (body_of x ++ back)) sizes.size_low ∙ sym (length-body x);
      right = rw (row-of-body x) (item-right x).row-right.is-row;
      fits = omega (arith, length-append (body_of x) back);
      body_is = sym (take_at (body_of x) back (length (body_of x)) refl);
    }

-- what is written is read back
pub records-written : (x : Item) → FitsBytes x → (back : List ℕ) → records (record_of x ++ back) ≡ next x (records back)
unfolding record_size
records-written x fits back =
    let w = whole-record x back in
    let long : length (record_of x) ≡ 4 + length (body_of x) = omega (arith, length-record x, length-body x) in
    records-whole (record_of x ++ back) (row_of x).kind (body_of x) (is_whole w) ∙ rw (drop_at (record_of x) back (4 + length (body_of x)) long, item-body x fits)

-- the body of a kind and length that the table has is written again
module _ {b : List ℕ} (are : AreBytes b) (kind : ℕ) (is : is_row (body_row kind (length b)) ≡ true) where
  body-item : body_of (item kind b) ≡ b
  body-item =
      let row = body_row kind (length b) in
      let size_is = (row_told kind (length b) is).size_is in
      ap (λ (p : Parts). field_bytes p.row.widths p.fields) (parts-item kind b is)
      ∙ (fields-again are row.widths 0 (omega (arith, size_is)) ∙ take_all (body_size row) b (omega (arith, size_is)))

  fits-item : FitsBytes (item kind b)
  fits-item = subst (λ (p : Parts). FieldsFit p.row.widths p.fields) (sym (parts-item kind b is)) (fields_fit are (body_row kind (length b)).widths 0)

-- a whole record is written again
whole-written : {s : List ℕ} {kind : ℕ} {b : List ℕ} → AreBytes s → AreBytes b → Whole s kind b → s ≡ record_of (item kind b) ++ drop (4 + length b) s
unfolding record_of
whole-written {s} {kind} {b} are are-b w =
    let n = length b in
    let size-bytes : bytes 2 n ≡ take 2 s = ap (bytes 2) (sym w.size_is) ∙ bytes-number are 2 0 (omega (arith, w.fits)) in
    let kind-bytes : bytes 2 kind ≡ take 2 (drop 2 s) = ap (bytes 2) (sym w.kind-is) ∙ bytes-number are 2 2 (omega (arith, w.fits)) in
    let header : take 2 s ++ (take 2 (drop 2 s) ++ b) ≡ take (4 + n) s =
    sym (append_assoc (take 2 s) (take 2 (drop 2 s)) b) ∙ ap (λ (l : List ℕ). (take 2 s ++ take 2 (drop 2 s)) ++ l) w.body_is
    ∙ rw (← (take-add 2 2 s)) (sym (take-add 4 n s)) in
    let size_is : body_size (row_of (item kind b)) ≡ n = sym (body-item-size kind b w.right) in
    let kind-is : (row_of (item kind b)).kind ≡ kind = kind-item kind b w.right in
    rw (size_is, kind-is, body-item are-b kind w.right, size-bytes, kind-bytes, header) (sym (take-append-drop (4 + n) s))

-- the first of the records of s, by the bytes
pub record First (s : List ℕ) (x : Item) (rest : Records) : Type 0 where
  pub back : List ℕ
  pub bytes-are : s ≡ record_of x ++ back
  pub are : AreBytes back
  pub fits : FitsBytes x
  pub rest-is : rest ≡ records back

pub first_of : {s : List ℕ} → AreBytes s → (x : Item) (rest : Records) → records s ≡ next x rest → First s x rest
unfolding divided
first_of {s} are x rest e = go (split s) refl (sym (records-divided s) ∙ e)
  where
    item-same : (y : Item) (r : Records) → next y r ≡ next x rest → x ≡ y
    item-same y r h = cc

    rest-same : (y : Item) (r : Records) → next y r ≡ next x rest → rest ≡ r
    rest-same y r h = cc

    go : (t : Split) → split s ≡ t → divided t records s ≡ next x rest → First s x rest
    go nothing f h = clash (cc)
    go (faulty n) f h = clash (cc)
    go (whole kind b) f h =
        let w = whole_is s kind b f in
        let back = drop (4 + length b) s in
        let same = item-same (item kind b) (records back) h in
        let are-b : AreBytes b = rw w.body_is (bytes_take (bytes_drop are 4) (length b)) in
        record {
          back = back;
          bytes-are = rw same (whole-written are are-b w);
          are = bytes_drop are (4 + length b);
          fits = rw same (fits-item are-b kind w.right);
          rest-is = rest-same (item kind b) (records back) h;
        }
