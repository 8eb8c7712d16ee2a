-- An event told by one masked compare and a set of steps.
use Prim.Native.Nat.{ℕ, zero, suc, ◌+◌, ◌-◌, ◌*◌, ◌/◌, ◌%◌, ◌^◌, ◌≤◌, ◌<◌}
use mathlib.Core.Path.{◌≡◌, refl, sym, ◌∙◌}
use mathlib.Core.Logic.{◌≢◌}
use mathlib.Core.Bool.{Bool, true, false}
use mathlib.Core.List.{List, [], ◌∷◌}
use native.Mathlib.Decide.{ℕ_discrete}
use native.Mathlib.Omega.{arith}
use lib.Dec.{eqb, ltb, lit<, lit≤}
use lib.ListN.{get_or}
use borrow.Author.Tests.{eqb-true, ltb-true, lt-ltb}
use Rattle.lists.specs.Choice.{both}
use Rattle.lists.proofs.Tests.{by_cases, both_true, both-assoc, both_yes}
use Rattle.words.specs.Inner.Digits.{digit, byte_in}
use Rattle.words.proofs.Digits.{digit-zero, digit-suc}
use Rattle.event.specs.Event.{level_fits, names_step}
use Rattle.event.proofs.Levels.{step_in}
use Rattle.trace.specs.Bytes.{AreBytes, number}
use Rattle.trace.specs.Inner.Masked.{header_fits, event_bytes, is_event, mask_tells, Mask, Steps}
use Rattle.trace.proofs.Numbers.{byte-number, number-join, number-below}
use Rattle.trace.proofs.Masks.{Field, is, under, mask_of, value_of, asked, mask, value, fits, masked}

-- ---- the mask
fields : (k : ℕ) → k ≤ 8 → List Field
fields k h =
    is 3 (lit< tt) ∷ is 0 (lit< tt) ∷ is 4 (lit< tt) ∷ is 0 (lit< tt) ∷ under 3 (lit≤ tt) ∷ under 3 (lit≤ tt) ∷ under k h ∷ []

fields-tell : (k : ℕ) (h : k ≤ 8) (w : ℕ) → fits 0 (fields k h) w ≡ mask_tells k w
unfolding fields fits asked mask_tells header_fits
fields-tell k h w = simp (both-assoc, both_yes)

pub mask_is : (k fixed : ℕ) → k ≤ 8 → fixed ≡ 0xf8f8ffffffff + (256 - 2 ^ k) * 2 ^ 48 → Mask k fixed
unfolding fields mask mask_of value value_of
mask_is k fixed h e = record {
  tells = λ w. let m : fixed ≡ mask (fields k h) = omega arith in rw m (masked (fields k h) w ∙ fields-tell k h w);
}

-- ---- the set of steps: one test of all its pairs, that antt computes
same : Bool → Bool → Bool
same true t = t
same false true = false
same false false = true

same_true : (s t : Bool) → same s t ≡ true → s ≡ t
unfolding same
same_true true t e = sym e
same_true false true e = e
same_true false false e = refl

every : ℕ → (ℕ → Bool) → Bool
every zero p = true
every (suc n) p = both (p n) (every n p)

every-at : (n : ℕ) (p : ℕ → Bool) → every n p ≡ true → (i : ℕ) → i < n → p i ≡ true
unfolding every
every-at zero p e i l = absurd (omega arith)
every-at (suc n) p e i l =
    let parts = both_true (p n) (every n p) e in
    by_cases (ℕ_discrete i n) (λ (h : i ≡ n). rw h parts.0) (λ (h : i ≢ n). every-at n p parts.1 i (omega arith))

right : ℕ → ℕ → ℕ → ℕ → Bool
right k named level what = same (eqb (named / 2 ^ (8 * level + what) % 2) 1) (level_fits k what level)

all_right : ℕ → ℕ → Bool
all_right k named = every 8 (λ level. every 8 (right k named level))

steps-are : (k named : ℕ) → all_right k named ≡ true → Steps k named
unfolding all_right right
steps-are k named e = record {
  tells = λ what level f g. same_true _ _ (every-at 8 (right k named level) (every-at 8 (λ l. every 8 (right k named l)) e level g) what f);
}

pub steps-0 : Steps 0 0x15
unfolding all_right right every same level_fits
steps-0 = steps-are 0 0x15 refl

pub steps-1 : Steps 1 0xc11
unfolding all_right right every same level_fits
steps-1 = steps-are 1 0xc11 refl

pub steps-2 : Steps 2 0xc0a11
unfolding all_right right every same level_fits
steps-2 = steps-are 2 0xc0a11 refl

pub steps-3 : Steps 3 0xc0a0a11
unfolding all_right right every same level_fits
steps-3 = steps-are 3 0xc0a0a11 refl

pub steps-4 : Steps 4 0xc0a0a0a11
unfolding all_right right every same level_fits
steps-4 = steps-are 4 0xc0a0a0a11 refl

-- ---- the event
-- what the mask refuses names no step
refused : (s n a b p : Bool) → (n ≡ true → (a ≡ true) × (b ≡ true) × (p ≡ true)) → both s (both a (both b p)) ≡ false → both s n ≡ false
refused false n a b p g e = refl
refused true false a b p g e = refl
refused true true a b p g e = rw ((g refl).0, (g refl).1, (g refl).2) at e

module _ (k w : ℕ) where
  pub no-event : k ≤ 4 → mask_tells k w ≡ false → is_event k w ≡ false
  unfolding mask_tells is_event
  no-event h =
      refused (header_fits w) (names_step k (event_bytes w)) (ltb (byte_in w 4) 8) (ltb (byte_in w 5) 8) (ltb (byte_in w 6) (2 ^ k))
      (λ e.
      let i = step_in k (event_bytes w) e in
      let what-low = lt-ltb (byte_in w 4) 8 (omega (arith, i.what-most)) in
      let level-low = lt-ltb (byte_in w 5) 8 (omega (arith, i.level-most)) in
      (what-low, level-low, lt-ltb (byte_in w 6) (2 ^ k) i.position-below))

  -- where the mask agrees, the set of steps decides
  pub step-told : mask_tells k w ≡ true → (named : ℕ) → Steps k named → eqb (named / 2 ^ (8 * (w / 2 ^ 40 % 8) + w / 2 ^ 32 % 8) % 2) 1 ≡ is_event k w
  unfolding mask_tells is_event names_step digit
  step-told e named s =
      let header = both_true (header_fits w) (both (ltb (byte_in w 4) 8) (both (ltb (byte_in w 5) 8) (ltb (byte_in w 6) (2 ^ k)))) e in
      let what = both_true (ltb (byte_in w 4) 8) (both (ltb (byte_in w 5) 8) (ltb (byte_in w 6) (2 ^ k))) header.1 in
      let level = both_true (ltb (byte_in w 5) 8) (ltb (byte_in w 6) (2 ^ k)) what.1 in
      let what-is : w / 2 ^ 32 % 8 ≡ byte_in w 4 = omega (arith, ltb-true (byte_in w 4) 8 what.0) in
      let level-is : w / 2 ^ 40 % 8 ≡ byte_in w 5 = omega (arith, ltb-true (byte_in w 5) 8 level.0) in
      s.tells (w / 2 ^ 32 % 8) (w / 2 ^ 40 % 8) (omega arith) (omega arith) ∙ rw (what-is, level-is, header.0, level.1)

-- bytes by the lowest of what is left
byte-0 : (w : ℕ) → byte_in w 0 ≡ w % 256
byte-0 w = digit-zero 8 w

byte-1 : (w : ℕ) → byte_in w 1 ≡ w / 256 % 256
byte-1 w = digit-suc 8 w 0 ∙ byte-0 (w / 256)

byte-2 : (w : ℕ) → byte_in w 2 ≡ w / 256 / 256 % 256
byte-2 w = digit-suc 8 w 1 ∙ byte-1 (w / 256)

byte-3 : (w : ℕ) → byte_in w 3 ≡ w / 256 / 256 / 256 % 256
byte-3 w = digit-suc 8 w 2 ∙ byte-2 (w / 256)

header_is : (w : ℕ) → header_fits w ≡ true → w % 4294967296 ≡ 262147
unfolding header_fits
header_is w e =
    let a = both_true (eqb (byte_in w 0) 3) (both (eqb (byte_in w 1) 0) (both (eqb (byte_in w 2) 4) (eqb (byte_in w 3) 0))) e in
    let b = both_true (eqb (byte_in w 1) 0) (both (eqb (byte_in w 2) 4) (eqb (byte_in w 3) 0)) a.1 in
    let c = both_true (eqb (byte_in w 2) 4) (eqb (byte_in w 3) 0) b.1 in
    let d₀ : w % 256 ≡ 3 = sym (byte-0 w) ∙ eqb-true (byte_in w 0) 3 a.0 in
    let d₁ : w / 256 % 256 ≡ 0 = sym (byte-1 w) ∙ eqb-true (byte_in w 1) 0 b.0 in
    let d₂ : w / 256 / 256 % 256 ≡ 4 = sym (byte-2 w) ∙ eqb-true (byte_in w 2) 4 c.0 in
    let d₃ : w / 256 / 256 / 256 % 256 ≡ 0 = sym (byte-3 w) ∙ eqb-true (byte_in w 3) 0 c.1 in
    omega arith

-- ---- eight bytes of a trace
module _ {s : List ℕ} (are : AreBytes s) (i : ℕ) where
  pub header_of : number 8 s i % 4294967296 ≡ number 4 s i
  header_of = omega (arith, number-join 4 4 s i, number-below are 4 i)

  pub event-stands : (k : ℕ) → is_event k (number 8 s i) ≡ true →
      (number 4 s i ≡ 262147) × (names_step k (record { what = get_or s (i + 4) 0; level = get_or s (i + 5) 0; position = get_or s (i + 6) 0 }) ≡ true)
  unfolding is_event
  event-stands k e =
      let w = number 8 s i in
      let parts = both_true (header_fits w) (names_step k (event_bytes w)) e in
      let what : byte_in w 4 ≡ get_or s (i + 4) 0 = byte-number are 8 i 4 (omega arith) in
      let level : byte_in w 5 ≡ get_or s (i + 5) 0 = byte-number are 8 i 5 (omega arith) in
      let position : byte_in w 6 ≡ get_or s (i + 6) 0 = byte-number are 8 i 6 (omega arith) in
      (sym header_of ∙ header_is w parts.0, rw (← what, ← level, ← position) parts.1)
