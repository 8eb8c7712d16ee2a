-- Laws of an item stored in a row: what the row says then, and that the other rows say what they said.
use Prim.Native.Nat.{ℕ, zero, suc, ◌+◌, ◌*◌, ◌≤◌, ◌<◌, ◌^◌}
use mathlib.Core.Path.{◌≡◌, refl, sym, ap, subst, ◌∙◌}
use mathlib.Core.Logic.{◌≢◌, ◌⊎◌, ⊎_elim}
use mathlib.Core.List.{List, [], ◌∷◌}
use native.Mathlib.Nat.{add-zero, mul-suc, mul-le-mul_left}
use native.Mathlib.Omega.{arith}
use lib.ListN.{length, get_or, take, set, length-set}
use lib.Seq.{get_or-set_same, get_or-set_other, get_or-take}
use Rattle.lists.specs.Table.{update}
use Rattle.lists.proofs.Tests.{below-cases}
use Rattle.event.specs.Event.{event, drain}
use Rattle.trace.specs.Item.{shape, word, request, act}
use Rattle.trace.specs.Table.{first_row, kind_row}
use Rattle.trace.specs.Table as T
use Rattle.trace.specs.Inner.Fits.{FieldsFit, no_field, field_fits}
use Rattle.trace.specs.Inner.Kinds.{number_of_kind}
use Rattle.trace.specs.declared.kind.RecordKind.{RecordKind}
use Rattle.trace.specs.declared.kind.RecordKind.TheVariants.{Shape, Word, Request, Event, Drain}
use Rattle.writing.specs.Rows.{Rows, rows, row_count, kind_at, cell, picked, entry_of, entry, known}
use Rattle.reading.specs.Inner.Row.{item_of, three_set, two_set, MayKeep, RowPut}
use Rattle.reading.proofs.Rows.{entry-same}

-- ---- a store in one row
apart : (size i j k k' : ℕ) → j ≢ i → k < size → k' < size → size * j + k ≢ size * i + k'
apart size i j k k' n h h' e = below-cases j i
    (λ (l : j < i). let m : size * suc j ≤ size * i = mul-le-mul_left size l in absurd (omega (arith, m, mul-suc size j, e)))
    (λ (l : i ≤ j). let below : suc i ≤ j = omega (arith, n) in
    let m : size * suc i ≤ size * j = mul-le-mul_left size below in absurd (omega (arith, m, mul-suc size i, e)))

-- l' is l but for row i, where each row has `size` numbers
record RowOnly (size i : ℕ) (l l' : List ℕ) : Type 0 where
  pub long : length l' ≡ length l
  pub same : (j k : ℕ) → j ≢ i → k < size → get_or l' (size * j + k) 0 ≡ get_or l (size * j + k) 0

kept : (size i : ℕ) (l : List ℕ) → RowOnly size i l l
kept size i l = record { long = refl; same = λ j k n h. refl }

kept_set : {size i : ℕ} {l l' : List ℕ} (k at v : ℕ) → k < size → at ≡ size * i + k → RowOnly size i l l' → RowOnly size i l (set l' at v)
kept_set {size} {i} {l} {l'} k at v h e before = record {
  long = length-set l' at v ∙ before.long;
  same = λ j k' n h'.
      let off : size * j + k' ≢ at = λ s. apart size i j k' k n h' h (s ∙ e) in get_or-set_other l' at (size * j + k') v 0 off ∙ before.same j k' n h';
}

module _ {kind : ℕ} {values : List ℕ} {i : ℕ} {h b w h' b' w' : List ℕ} where
  row_put : entry (rows h' b' w') i ≡ known (item_of kind values) → RowOnly 2 i h h' → RowOnly 10 i b b' → RowOnly 8 i w w' →
      RowPut kind values i (rows h b w) (rows h' b' w')
  row_put is heads bytes words = record {
    row_is = is;
    others = λ j n. entry-same (rows h' b' w') (rows h b w) j j
        (record { heads-are = λ k. heads.same j k n; bytes-are = λ k. bytes.same j k n; words_are = λ k. words.same j k n });
    sizes = record { heads-size = heads.long; bytes-size = bytes.long; words_size = words.long };
  }

-- ---- what is stored
three-kept : (b : List ℕ) (i : ℕ) (values : List ℕ) → RowOnly 10 i b (three_set b (10 * i) values)
three-kept b i values =
    kept_set 2 _ _ (omega arith) refl (kept_set 1 _ _ (omega arith) refl (kept_set 0 _ _ (omega arith) (sym (add-zero _)) (kept 10 i b)))

two-kept : (w : List ℕ) (i : ℕ) (values : List ℕ) → RowOnly 8 i w (two_set w (8 * i) values)
two-kept w i values = kept_set 1 _ _ (omega arith) refl (kept_set 0 _ _ (omega arith) (sym (add-zero _)) (kept 8 i w))

module _ (l : List ℕ) (at : ℕ) (values : List ℕ) where
  three-are : at + 3 ≤ length l → (get_or (three_set l at values) at 0 ≡ get_or values 0 0)
      × (get_or (three_set l at values) (at + 1) 0 ≡ get_or values 1 0) × (get_or (three_set l at values) (at + 2) 0 ≡ get_or values 2 0)
  three-are room =
      let one = set l at (get_or values 0 0) in
      let two = set one (at + 1) (get_or values 1 0) in
      let size-one = length-set l at (get_or values 0 0) in
      let size-two = length-set one (at + 1) (get_or values 1 0) in (
        get_or-set_other two (at + 2) at _ 0 (omega arith) ∙ get_or-set_other one (at + 1) at _ 0 (omega arith) ∙ get_or-set_same l at _ 0 (omega arith),
        get_or-set_other two (at + 2) (at + 1) _ 0 (omega arith) ∙ get_or-set_same one (at + 1) _ 0 (omega (arith, size-one)),
        get_or-set_same two (at + 2) _ 0 (omega (arith, size-one, size-two)),
      )

  two-are : at + 2 ≤ length l → (get_or (two_set l at values) at 0 ≡ get_or values 3 0) × (get_or (two_set l at values) (at + 1) 0 ≡ get_or values 4 0)
  two-are room =
      let one = set l at (get_or values 3 0) in (
        get_or-set_other one (at + 1) at _ 0 (omega arith) ∙ get_or-set_same l at _ 0 (omega arith),
        get_or-set_same one (at + 1) _ 0 (omega (arith, length-set l at (get_or values 3 0))),
      )

-- ---- the room of a row
pub row_room : (r : Rows) (i : ℕ) → i < row_count r → (2 * i + 2 ≤ length r.heads) × (10 * i + 10 ≤ length r.bytes) × (8 * i + 8 ≤ length r.words)
unfolding row_count
row_room r i l = (omega arith, omega arith, omega arith)

-- ---- what the row says then
module _ (r : Rows) (i : ℕ) (values : List ℕ) where
  -- a field's number, where the row has it
  field : (l : List ℕ) (at n j : ℕ) → j < n → get_or l at 0 ≡ get_or values j 0 → get_or l at 0 ≡ get_or (take n values) j 0
  field l at n j h e = e ∙ sym (get_or-take n values j 0 h)

  -- the same of the first cell
  first_cell : (l : List ℕ) (at n j : ℕ) → j < n → get_or l at 0 ≡ get_or values j 0 → get_or l (at + 0) 0 ≡ get_or (take n values) j 0
  first_cell l at n j h e = ap (λ (m : ℕ). get_or l m 0) (add-zero at) ∙ field l at n j h e

  Three : Type 0
  Three = (get_or r.bytes (10 * i) 0 ≡ get_or values 0 0) × (get_or r.bytes (10 * i + 1) 0 ≡ get_or values 1 0)
      × (get_or r.bytes (10 * i + 2) 0 ≡ get_or values 2 0)

  says-shape : kind_at r i ≡ 1 → Three → entry r i ≡ known (item_of 1 values)
  unfolding Three entry kind_row first_row T.rows entry_of picked update cell
  says-shape kind (e0, e1, e2) =
      let b0 = first_cell r.bytes (10 * i) 3 0 (omega arith) e0 in
      let b1 = field r.bytes (10 * i + 1) 3 1 (omega arith) e1 in
      let b2 = field r.bytes (10 * i + 2) 3 2 (omega arith) e2 in
      ap (λ (k : ℕ). entry_of (kind_row k) (cell r i)) kind ∙ (λ t. known (shape (record { k = b0 t; q = b1 t; w = b2 t })))

  says-word : kind_at r i ≡ 2 → get_or r.bytes (10 * i) 0 ≡ get_or values 0 0 → get_or r.words (8 * i) 0 ≡ get_or values 1 0 →
      entry r i ≡ known (item_of 2 values)
  unfolding entry kind_row first_row T.rows entry_of picked update cell
  says-word kind e0 e1 =
      let b0 = first_cell r.bytes (10 * i) 2 0 (omega arith) e0 in
      let w0 = first_cell r.words (8 * i) 2 1 (omega arith) e1 in
      ap (λ (k : ℕ). entry_of (kind_row k) (cell r i)) kind ∙ (λ t. known (word (record { address = b0 t; value = w0 t })))

  says-request : kind_at r i ≡ 3 → Three → get_or r.words (8 * i) 0 ≡ get_or values 3 0 → get_or r.words (8 * i + 1) 0 ≡ get_or values 4 0 →
      entry r i ≡ known (item_of 3 values)
  unfolding Three entry kind_row first_row T.rows entry_of picked update cell
  says-request kind (e0, e1, e2) e3 e4 =
      let b0 = first_cell r.bytes (10 * i) 5 0 (omega arith) e0 in
      let b1 = field r.bytes (10 * i + 1) 5 1 (omega arith) e1 in
      let b2 = field r.bytes (10 * i + 2) 5 2 (omega arith) e2 in
      let w0 = first_cell r.words (8 * i) 5 3 (omega arith) e3 in
      let w1 = field r.words (8 * i + 1) 5 4 (omega arith) e4 in
      ap (λ (k : ℕ). entry_of (kind_row k) (cell r i)) kind
      ∙ (λ t. known (request (record { engine = b0 t; operation = b1 t; address = b2 t; first = w0 t; second = w1 t })))

  says-event : kind_at r i ≡ 4 → Three → entry r i ≡ known (item_of 4 values)
  unfolding Three entry kind_row first_row T.rows entry_of picked update cell
  says-event kind (e0, e1, e2) =
      let b0 = first_cell r.bytes (10 * i) 3 0 (omega arith) e0 in
      let b1 = field r.bytes (10 * i + 1) 3 1 (omega arith) e1 in
      let b2 = field r.bytes (10 * i + 2) 3 2 (omega arith) e2 in
      ap (λ (k : ℕ). entry_of (kind_row k) (cell r i)) kind ∙ (λ t. known (act (event (record { what = b0 t; level = b1 t; position = b2 t }))))

  says-drain : kind_at r i ≡ 5 → get_or r.heads (2 * i + 1) 0 ≡ get_or values 0 0 → entry r i ≡ known (item_of 5 values)
  unfolding entry kind_row first_row T.rows entry_of picked update cell
  says-drain kind e0 =
      let h0 = first_cell r.heads (2 * i + 1) 1 0 (omega arith) e0 in
      ap (λ (k : ℕ). entry_of (kind_row k) (cell r i)) kind ∙ (λ t. known (act (drain (h0 t))))

-- ---- kind by kind
module _ (values : List ℕ) (i : ℕ) (h b w : List ℕ) (room : i < row_count (rows h b w)) where
  sizes : (2 * i + 2 ≤ length h) × (10 * i + 10 ≤ length b) × (8 * i + 8 ≤ length w)
  sizes = row_room (rows h b w) i room

  kind-is : (kind : ℕ) → get_or (set h (2 * i) kind) (2 * i) 0 ≡ kind
  kind-is kind = get_or-set_same h (2 * i) kind 0 (omega (arith, sizes.0))

  kind-kept : (kind : ℕ) → RowOnly 2 i h (set h (2 * i) kind)
  kind-kept kind = kept_set 0 _ _ (omega arith) (sym (add-zero _)) (kept 2 i h)

  three : Three (rows h (three_set b (10 * i) values) w) i values
  unfolding Three
  three = three-are b (10 * i) values (omega (arith, sizes.1))

  module _ {kind : RecordKind} {head : ℕ} (head-is : head ≡ number_of_kind kind) where
    pub put_three_bytes : (kind ≡ Shape) ⊎ (kind ≡ Event) →
        RowPut (number_of_kind kind) values i (rows h b w) (rows (set h (2 * i) head) (three_set b (10 * i) values) w)
    unfolding Three
    put_three_bytes either = rw head-is (⊎_elim
        (λ e. rw e (row_put (says-shape _ i values (kind-is 1) three) (kind-kept 1) (three-kept b i values) (kept 8 i w)))
        (λ e. rw e (row_put (says-event _ i values (kind-is 4) three) (kind-kept 4) (three-kept b i values) (kept 8 i w)))
        either)

    pub put_word : kind ≡ Word → RowPut (number_of_kind kind) values i (rows h b w)
        (rows (set h (2 * i) head) (set b (10 * i) (get_or values 0 0)) (set w (8 * i) (get_or values 1 0)))
    put_word e = rw (head-is, e) (row_put
        (says-word _ i values (kind-is 2)
        (get_or-set_same b (10 * i) (get_or values 0 0) 0 (omega (arith, sizes.1))) (get_or-set_same w (8 * i) (get_or values 1 0) 0 (omega (arith, sizes.2))))
        (kind-kept 2) (kept_set 0 _ _ (omega arith) (sym (add-zero _)) (kept 10 i b)) (kept_set 0 _ _ (omega arith) (sym (add-zero _)) (kept 8 i w)))

    pub put-request : kind ≡ Request → RowPut (number_of_kind kind) values i (rows h b w)
        (rows (set h (2 * i) head) (three_set b (10 * i) values) (two_set w (8 * i) values))
    unfolding Three
    put-request e = let both = two-are w (8 * i) values (omega (arith, sizes.2)) in
        rw (head-is, e) (row_put (says-request _ i values (kind-is 3) three both.0 both.1) (kind-kept 3) (three-kept b i values) (two-kept w i values))

    pub put-drain : kind ≡ Drain → RowPut (number_of_kind kind) values i (rows h b w)
        (rows (set (set h (2 * i) head) (2 * i + 1) (get_or values 0 0)) b w)
    put-drain e =
        let kind-stays = get_or-set_other (set h (2 * i) 5) (2 * i + 1) (2 * i) (get_or values 0 0) 0 (omega arith) ∙ kind-is 5 in
        let rounds = get_or-set_same (set h (2 * i) 5) (2 * i + 1) (get_or values 0 0) 0 (omega (arith, sizes.0, length-set h (2 * i) 5)) in
        rw (head-is, e) (row_put (says-drain _ i values kind-stays rounds) (kept_set 1 _ _ (omega arith) refl (kind-kept 5)) (kept 10 i b) (kept 8 i w))

-- ---- the numbers fit their cells
field-low : {widths fields : List ℕ} → FieldsFit widths fields → (j : ℕ) → j < length widths → get_or fields j 0 < 256 ^ get_or widths j 0
field-low no_field j l = absurd (omega arith)
field-low (field_fits p rest) zero l = p
field-low (field_fits p rest) (suc j) l = field-low rest j (omega arith)

widths_of : {kind kind' : RecordKind} → kind ≡ kind' → (kind_row (number_of_kind kind)).widths ≡ (kind_row (number_of_kind kind')).widths
widths_of e = ap (λ (k : RecordKind). (kind_row (number_of_kind k)).widths) e

module _ {kind : RecordKind} {values : List ℕ} (may : MayKeep kind values) where
  value_low : (widths : List ℕ) → (kind_row (number_of_kind kind)).widths ≡ widths → (j : ℕ) → j < length widths → get_or values j 0 < 256 ^ get_or widths j 0
  value_low widths e j l =
      let fit : FieldsFit widths (take (length widths) values) = subst (λ (ws : List ℕ). FieldsFit ws (take (length ws) values)) e may.fit in
      rw (get_or-take (length widths) values j 0 l) at (field-low fit j l)

  BytesLow : Type 0
  BytesLow = (get_or values 0 0 < 256) × (get_or values 1 0 < 256) × (get_or values 2 0 < 256)

  three-low : (rest : List ℕ) → (kind_row (number_of_kind kind)).widths ≡ 1 ∷ 1 ∷ 1 ∷ rest → BytesLow
  unfolding BytesLow
  three-low rest e = let low = value_low (1 ∷ 1 ∷ 1 ∷ rest) e in (low 0 (omega arith), low 1 (omega arith), low 2 (omega arith))

  pub three-bytes-low : (kind ≡ Shape) ⊎ (kind ≡ Event) → (get_or values 0 0 < 256) × (get_or values 1 0 < 256) × (get_or values 2 0 < 256)
  unfolding BytesLow kind_row first_row T.rows
  three-bytes-low either = ⊎_elim (λ e. three-low [] (widths_of e)) (λ e. three-low [] (widths_of e)) either

  pub request-low : kind ≡ Request → (get_or values 0 0 < 256) × (get_or values 1 0 < 256) × (get_or values 2 0 < 256)
  unfolding BytesLow kind_row first_row T.rows
  request-low e = three-low (8 ∷ 8 ∷ []) (widths_of e)

  pub word_low : kind ≡ Word → get_or values 0 0 < 256
  unfolding kind_row first_row T.rows
  word_low e = value_low (1 ∷ 8 ∷ []) (widths_of e) 0 (omega arith)

  pub drain-low : kind ≡ Drain → get_or values 0 0 < 65536
  unfolding kind_row first_row T.rows
  drain-low e = value_low (2 ∷ []) (widths_of e) 0 (omega arith)
