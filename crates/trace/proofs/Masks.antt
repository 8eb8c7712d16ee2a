-- A masked compare of a word, by its bytes: a mask of whole bytes, and of all but the low digits of a byte.
use Prim.Native.Nat.{ℕ, suc, ◌+◌, ◌-◌, ◌*◌, ◌/◌, ◌%◌, ◌^◌, ◌≤◌, ◌<◌}
use mathlib.Core.Path.{◌≡◌, refl, sym, ap, ap₂, ◌∙◌}
use mathlib.Core.Logic.{◌≢◌}
use mathlib.Core.Bool.{Bool, true}
use mathlib.Core.List.{List, [], ◌∷◌}
use native.Mathlib.Nat.{zero-mul, mod-lt, div-eq_of_lt}
use native.Mathlib.Omega.{arith}
use lib.Bits.{bit_and, and_block, and_mask, and_high, and_zero_r, and_le_l}
use lib.Dec.{eqb, ltb}
use lib.Pow.{pow_pos, shr_mod, split}
use borrow.Author.Tests.{eq-eqb, ne_eqb}
use Rattle.lists.specs.Choice.{both}
use Rattle.lists.proofs.Tests.{eqb-cases, ltb-cases}
use Rattle.words.specs.Inner.Digits.{byte_in}
use Rattle.words.proofs.Digits.{digit-zero, digit-suc}

-- what is asked of a byte: that it is v, or that it is below 2^j
pub data Field : Type 0 where
  is : (v : ℕ) → v < 256 → Field
  under : (j : ℕ) → j ≤ 8 → Field

unfoldable pub mask_of : Field → ℕ
mask_of (is v l) = 255
mask_of (under j l) = 256 - 2 ^ j

unfoldable pub value_of : Field → ℕ
value_of (is v l) = v
value_of (under j l) = 0

unfoldable pub asked : Field → ℕ → Bool
asked (is v l) d = eqb d v
asked (under j l) d = ltb d (2 ^ j)

-- ---- one byte

high-digits : (d j : ℕ) → d < 256 → j ≤ 8 → bit_and d (256 - 2 ^ j) ≡ d / 2 ^ j * 2 ^ j
high-digits d j f l =
    let e : 8 - j + j ≡ 8 = omega arith in
    let g : d < 2 ^ (8 - j + j) = rw e f in
    ap (λ (n : ℕ). bit_and d (2 ^ n - 2 ^ j)) (sym e) ∙ and_high d (8 - j) j ∙ ap (λ (q : ℕ). q * 2 ^ j) (shr_mod (8 - j) j g)

byte-asked : (f : Field) (d : ℕ) → d < 256 → eqb (bit_and d (mask_of f)) (value_of f) ≡ asked f d
unfolding mask_of value_of asked
byte-asked (is v l) d h = let e : d % 2 ^ 8 ≡ d = omega arith in ap (λ (n : ℕ). eqb n v) (and_mask d 8 ∙ e)
byte-asked (under j l) d h =
    ltb-cases (λ t. eqb (bit_and d (256 - 2 ^ j)) 0 ≡ t) d (2 ^ j)
    (λ (m : d < 2 ^ j). eq-eqb _ _ (high-digits d j h l ∙ ap (λ (q : ℕ). q * 2 ^ j) (div-eq_of_lt m) ∙ zero-mul (2 ^ j)))
    (λ (m : 2 ^ j ≤ d). ne_eqb _ _ (λ z. let e : d / 2 ^ j * 2 ^ j ≡ 0 = sym (high-digits d j h l) ∙ z in omega (arith, split d j, mod-lt d (pow_pos j))))

-- ---- the bytes of a word, the lowest first

unfoldable pub mask : List Field → ℕ
mask [] = 0
mask (f ∷ fs) = mask fs * 256 + mask_of f

unfoldable pub value : List Field → ℕ
value [] = 0
value (f ∷ fs) = value fs * 256 + value_of f

unfoldable pub fits : ℕ → List Field → ℕ → Bool
fits i [] w = true
fits i (f ∷ fs) w = both (asked f (byte_in w i)) (fits (suc i) fs w)

fits_suc : (fs : List Field) (i w : ℕ) → fits (suc i) fs w ≡ fits i fs (w / 256)
unfolding fits
fits_suc [] i w = refl
fits_suc (f ∷ fs) i w = rw (digit-suc 8 w i, fits_suc fs (suc i) w)

mask_fits : (f : Field) → mask_of f < 256
unfolding mask_of
mask_fits (is v l) = omega arith
mask_fits (under j l) = omega (arith, pow_pos j)

value-fits : (f : Field) → value_of f < 256
unfolding value_of
value-fits (is v l) = l
value-fits (under j l) = omega arith

digits-eqb : (p q a v x y : ℕ) → a < 256 → v < 256 → x ≡ p * 256 + a → y ≡ q * 256 + v → eqb x y ≡ both (eqb a v) (eqb p q)
digits-eqb p q a v x y f g d e =
    eqb-cases (λ t. eqb x y ≡ both t (eqb p q)) a v
    (λ (h : a ≡ v). eqb-cases (λ t. eqb x y ≡ t) p q
    (λ (i : p ≡ q). eq-eqb x y (omega arith)) (λ (n : p ≢ q). ne_eqb x y (λ (i : x ≡ y). n (omega arith))))
    (λ (n : a ≢ v). ne_eqb x y (λ (i : x ≡ y). n (omega arith)))

pub masked : (fs : List Field) (w : ℕ) → eqb (bit_and w (mask fs)) (value fs) ≡ fits 0 fs w
unfolding mask value fits
masked [] w = rw and_zero_r
masked (f ∷ fs) w =
    let e : w ≡ w / 256 * 2 ^ 8 + w % 256 = omega arith in
    let b : bit_and w (mask fs * 256 + mask_of f) ≡ bit_and (w / 256) (mask fs) * 256 + bit_and (w % 256) (mask_of f) =
    ap (λ (x : ℕ). bit_and x (mask fs * 2 ^ 8 + mask_of f)) e ∙ and_block 8 (w / 256) (mask fs) (w % 256) (mask_of f) (omega arith) (mask_fits f) in
    digits-eqb (bit_and (w / 256) (mask fs)) (value fs) (bit_and (w % 256) (mask_of f)) (value_of f) _ _
    (omega (arith, and_le_l (w % 256) (mask_of f))) (value-fits f) b refl
    ∙ ap₂ both (byte-asked f (w % 256) (omega arith) ∙ ap (asked f) (sym (digit-zero 8 w))) (masked fs (w / 256) ∙ sym (fits_suc fs 0 w))
