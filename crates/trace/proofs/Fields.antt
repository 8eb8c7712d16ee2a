-- Fields of any widths, written in bytes and read back: what is written is read, and what is read is written again.
use Prim.Native.Nat.{ℕ, suc, ◌+◌, ◌≤◌}
use mathlib.Core.Path.{◌≡◌, refl, ap, sym}
use mathlib.Core.List.{List, [], ◌∷◌, ◌++◌, append_assoc}
use native.Mathlib.Omega.{arith}
use native.Mathlib.Nat.{add_assoc}
use lib.ListN.{length, take, drop, length-append}
use lib.Seq.{take-add, drop-drop}
use Rattle.trace.specs.Bytes.{AreBytes, fields_in, total}
use Rattle.trace.specs.Write.{bytes, field_bytes}
use Rattle.trace.specs.Inner.Fits.{FieldsFit, no_field, field_fits}
use Rattle.trace.proofs.Numbers.{number-drop, number-below, length-bytes, bytes-number, number-bytes}

pub length_fields : (widths s : List ℕ) (i : ℕ) → length (fields_in widths s i) ≡ length widths
unfolding fields_in
length_fields [] s i = refl
length_fields (w ∷ ws) s i = ap suc (length_fields ws s (i + w))

pub length-field-bytes : (widths fields : List ℕ) → length fields ≡ length widths → length (field_bytes widths fields) ≡ total widths
unfolding field_bytes total
length-field-bytes [] fields h = refl
length-field-bytes (w ∷ ws) [] h = let z : ⊥ = omega arith in elim z [ ]
length-field-bytes (w ∷ ws) (f ∷ fs) h = omega (arith, length-append (bytes w f) (field_bytes ws fs), length-bytes w f, length-field-bytes ws fs (omega arith))

pub fields-drop : (widths s : List ℕ) (at i : ℕ) → fields_in widths (drop at s) i ≡ fields_in widths s (at + i)
unfolding fields_in
fields-drop [] s at i = refl
fields-drop (w ∷ ws) s at i = rw (number-drop w s at i, fields-drop ws s at (i + w), add_assoc at i w)

-- what is written is read, wherever it stands
pub fields-written : {widths fields : List ℕ} → FieldsFit widths fields → (front back : List ℕ) →
    fields_in widths (front ++ (field_bytes widths fields ++ back)) (length front) ≡ fields
unfolding fields_in field_bytes
fields-written no_field front back = refl
fields-written (field_fits {width = w} {field = f} {widths = ws} {fields = fs} low fit) front back =
    let rest = field_bytes ws fs in
    let behind : length front + w ≡ length (front ++ bytes w f) = omega (arith, length-append front (bytes w f), length-bytes w f) in
    let same : front ++ ((bytes w f ++ rest) ++ back) ≡ (front ++ bytes w f) ++ (rest ++ back) = simp append_assoc in
    rw (append_assoc (bytes w f) rest back, number-bytes w f front (rest ++ back) low, ← (append_assoc front (bytes w f) (rest ++ back)), behind)
    (ap (λ (l : List ℕ). f ∷ l) (fields-written fit (front ++ bytes w f) back))

module _ {s : List ℕ} (are : AreBytes s) where
  -- what is read fits, and is written again
  pub fields_fit : (widths : List ℕ) (i : ℕ) → FieldsFit widths (fields_in widths s i)
  unfolding fields_in
  fields_fit [] i = no_field
  fields_fit (w ∷ ws) i = field_fits (number-below are w i) (fields_fit ws (i + w))

  pub fields-again : (widths : List ℕ) (i : ℕ) → i + total widths ≤ length s → field_bytes widths (fields_in widths s i) ≡ take (total widths) (drop i s)
  unfolding fields_in field_bytes total
  fields-again [] i h = refl
  fields-again (w ∷ ws) i h =
      rw (bytes-number are w i (omega arith), fields-again ws (i + w) (omega arith), ← (drop-drop w i s))
      (sym (take-add w (total ws) (drop i s)))
