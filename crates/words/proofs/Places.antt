-- The lowest place of a byte in a word, by all its bytes at once.
use Rattle.std.proofs.Common.{◌≡◌, ℕ, zero, suc, ◌+◌, ◌-◌, ◌*◌, ◌/◌, ◌%◌, ◌^◌, ◌<◌, ◌≢◌, sym, ap, ◌∙◌, ap₂, mul_assoc, pow-suc, arith, None, Some, w64}
use native.Mathlib.Decide.{ℕ_discrete}
use lib.Bits.{bit_and, bit_xor, and_block, and_comm, and_shifted, and_le_l, and_le_r, xor_shr, xor_mod, xor_self, xor_add_and, xor_lt}
use lib.Count.{count_trailing_zeros, trailing_of_zero}
use Rattle.std.proofs.lemmas.Nat.Bits.{bit_at-trailing_zeros}
use Rattle.lists.proofs.Tests.{by_cases}
use Rattle.words.specs.Inner.Digits.{byte_in, PlaceOf, Lowest}
use Rattle.words.proofs.Digits.{digit-zero, digit-suc}
use Rattle.words.proofs.Zeros.{zeros-pass, zeros-stop}

-- the byte b at each of k places
repeated : ℕ → ℕ → ℕ
repeated b zero = 0
repeated b (suc k) = repeated b k * 256 + b

-- ---- one byte more

found_here : (k w b : ℕ) → w % 256 ≡ b → PlaceOf (suc k) w b 0
found_here k w b e = record { within = omega arith; below = λ i l. absurd (omega arith); found = λ l. digit-zero 8 w ∙ e }

found-above : (k w b r : ℕ) → w % 256 ≢ b → PlaceOf k (w / 256) b r → PlaceOf (suc k) w b (suc r)
found-above k w b r n p = record { within = omega (arith, p.within); below = lower; found = λ l. digit-suc 8 w r ∙ p.found (omega arith) }
  where
    lower : (i : ℕ) → i < suc r → byte_in w i ≢ b
    lower zero l = λ e. n (sym (digit-zero 8 w) ∙ e)
    lower (suc i) l = λ e. p.below i (omega arith) (sym (digit-suc 8 w i) ∙ e)

-- ---- the lowest byte of x that is 0. s is x less 1 at each byte. Up to that byte nothing is borrowed, so there the high bit of s & !x is
-- set just where x is 0; what is marked above it does not matter.

abbrev marks : ℕ → ℕ → ℕ → ℕ
marks k x s = bit_and (bit_and s (256 ^ k - 1 - x)) (repeated 128 k)

marks-suc : (k x s : ℕ) → x < 256 ^ suc k
    → marks (suc k) x s ≡ marks k (x / 256) (s / 256) * 256 + bit_and (bit_and (s % 256) (255 - x % 256)) 128
unfolding repeated
marks-suc k x s f =
    let p = pow-suc 256 k in
    let es : s ≡ s / 256 * 2 ^ 8 + s % 256 = omega arith in
    let en : 256 ^ suc k - 1 - x ≡ (256 ^ k - 1 - x / 256) * 2 ^ 8 + (255 - x % 256) = omega arith in
    ap (λ (y : ℕ). bit_and y (repeated 128 k * 2 ^ 8 + 128))
    (ap₂ bit_and es en ∙ and_block 8 (s / 256) (256 ^ k - 1 - x / 256) (s % 256) (255 - x % 256) (omega arith) (omega arith))
    ∙ and_block 8 (bit_and (s / 256) (256 ^ k - 1 - x / 256)) (repeated 128 k) (bit_and (s % 256) (255 - x % 256)) 128
    (omega (arith, and_le_l (s % 256) (255 - x % 256))) (omega arith)

unmarked : (d e : ℕ) → e + d < 255 → bit_and (bit_and e d) 128 ≡ 0
unmarked d e l = and_comm (bit_and e d) 128 ∙ and_shifted 1 7 (bit_and e d) (omega (arith, and_le_l e d, and_le_r e d))

pass : (k z : ℕ) → count_trailing_zeros (suc k * 8) (z * 256 + 0) / 8 ≡ suc (count_trailing_zeros (k * 8) z / 8)
pass k z = let e : (z * 256 + 0) / 256 ≡ z = omega arith in rw e at (zeros-pass 8 (omega arith) k (z * 256 + 0) (omega arith))

stop : (k z : ℕ) → count_trailing_zeros (suc k * 8) (z * 256 + 128) / 8 ≡ 0
stop k z = zeros-stop 8 (omega arith) k (z * 256 + 128) (λ e. absurd (omega arith))

zero-place : (k x s c : ℕ) → x < 256 ^ k → s + repeated 1 k ≡ x + c * 256 ^ k → PlaceOf k x 0 (count_trailing_zeros (k * 8) (marks k x s) / 8)
unfolding repeated count_trailing_zeros
zero-place zero x s c f h = record { within = omega arith; below = λ i l. absurd (omega arith); found = λ l. absurd (omega arith) }
zero-place (suc k) x s c f h =
    let p = pow-suc 256 k in
    let m : c * 256 ^ suc k ≡ c * 256 ^ k * 256 = rw (p, mul_assoc) in
    by_cases (ℕ_discrete (x % 256) 0)
    (λ (z : x % 256 ≡ 0).
    let e : s % 256 ≡ 255 = omega arith in
    rw (marks-suc k x s f, z, e, stop k (marks k (x / 256) (s / 256))) (found_here k x 0 z))
    (λ (n : x % 256 ≢ 0).
    let b : bit_and (bit_and (s % 256) (255 - x % 256)) 128 ≡ 0 = unmarked (255 - x % 256) (s % 256) (omega arith) in
    rw (marks-suc k x s f, b, pass k (marks k (x / 256) (s / 256)))
    (found-above k x 0 (count_trailing_zeros (k * 8) (marks k (x / 256) (s / 256)) / 8) n (zero-place k (x / 256) (s / 256) c (omega arith) (omega arith))))

-- ---- any byte: w ^ b at each byte is 0 just where w has b

byte-xor : (k w b i : ℕ) → b < 256 → i < k → byte_in (bit_xor w (repeated b k)) i ≡ bit_xor (byte_in w i) b
unfolding repeated
byte-xor zero w b i f l = absurd (omega arith)
byte-xor (suc k) w b zero f l =
    let e : (repeated b k * 256 + b) % 2 ^ 8 ≡ b = omega arith in
    rw (digit-zero 8, digit-zero 8, xor_mod w (repeated b k * 256 + b) 8, e)
byte-xor (suc k) w b (suc i) f l =
    let e : (repeated b k * 256 + b) / 2 ^ 8 ≡ repeated b k = omega arith in
    rw (digit-suc 8, digit-suc 8, xor_shr w (repeated b k * 256 + b) 8, e) (byte-xor k (w / 256) b i f (omega arith))

same_byte : (d b : ℕ) → bit_xor d b ≡ 0 → d ≡ b
same_byte d b e = omega (arith, xor_add_and d b, and_le_l d b, and_le_r d b)

from_zero : (k w b r : ℕ) → b < 256 → PlaceOf k (bit_xor w (repeated b k)) 0 r → PlaceOf k w b r
from_zero k w b r f p = record {
  within = p.within;
  below = λ i l e. p.below i l (byte-xor k w b i f (omega (arith, p.within)) ∙ ap (λ (d : ℕ). bit_xor d b) e ∙ xor_self b);
  found = λ l. same_byte (byte_in w r) b (sym (byte-xor k w b r f l) ∙ p.found l);
}

-- ---- as the code writes it

abbrev ones : ℕ
ones = 0x0101010101010101

abbrev highs : ℕ
highs = 0x8080808080808080

-- what is marked where w ^ b at each byte is x, of all its bytes at once
abbrev marked : ℕ → ℕ
marked x = bit_and ((x + (2 ^ 64 - ones)) % 2 ^ 64) (2 ^ 64 - 1 - x)

abbrev zeros_of : ℕ → ℕ → ℕ
zeros_of w b = bit_and (marked (bit_xor w (b * ones))) highs

module _ (w b : ℕ) (byte : b < 256) (word : w < 2 ^ 64) where
  place_of : PlaceOf 8 w b (count_trailing_zeros 64 (zeros_of w b) / 8)
  unfolding repeated
  place_of =
      let e : b * ones ≡ repeated b 8 = omega arith in
      let x : ℕ = bit_xor w (b * ones) in
      let s : ℕ = (x + (2 ^ 64 - ones)) % 2 ^ 64 in
      let small : x < 2 ^ 64 = xor_lt 64 w (b * ones) word (omega arith) in
      from_zero 8 w b _ byte (rw (← e) (zero-place 8 x s ((s + ones) / 2 ^ 64) small (omega arith)))

  pub place-none : zeros_of w b ≡ 0 → Lowest 8 w b None
  place-none e = rw (e, trailing_of_zero) at place_of

  pub place-some : zeros_of w b ≢ 0 → Lowest 8 w b (Some (count_trailing_zeros 64 (zeros_of w b) / 8))
  place-some n =
      let few = bit_at-trailing_zeros w64 (zeros_of w b) (omega arith) (omega (arith, and_le_r (marked (bit_xor w (b * ones))) highs)) in
      (omega (arith, few.0), place_of)
