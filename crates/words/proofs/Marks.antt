-- Marks: digits of one bit.
use Rattle.std.proofs.Common.{◌≡◌, ℕ, zero, suc, ◌+◌, ◌-◌, ◌*◌, ◌/◌, ◌%◌, ◌^◌, ◌<◌, ◌≤◌, refl, ◌∙◌, pow-suc, mul-one, arith, pow_pos}
use Rattle.lists.specs.Choice.{choose}
use Rattle.lists.specs.Table.{update}
use Rattle.lists.proofs.Tests.{ltb-cases}
use Rattle.words.specs.Inner.Digits.{digit, bit_in, LowBits}
use Rattle.words.proofs.Digits.{place, digit-zero, digit-suc, digit-none}
use Rattle.words.proofs.Written.{one_shifted, more-fits, more-digits}

pub bit_is : (w i : ℕ) → w / 2 ^ i % 2 ≡ bit_in w i
unfolding digit
bit_is w i = rw mul-one

-- one more where there is none
module _ (w i : ℕ) (a : i < 64) (f : w < 2 ^ 64) (z : bit_in w i ≡ 0) where
  abbrev marked : ℕ
  marked = w + (1 * 2 ^ i) % 2 ^ 64

  at-bit : place 1 i ≡ 2 ^ i
  at-bit = rw mul-one

  pub marked-fits : marked < 2 ^ 64
  marked-fits = rw at-bit at (more-fits 1 64 w i refl a f (omega arith))

  pub marked-bits : bit_in marked ≡ update (bit_in w) i 1
  marked-bits = rw (at-bit, z) at (more-digits 1 64 w i refl a f (omega arith))

-- ---- all of the n lowest

ones_below : (n i : ℕ) → i < n → bit_in (2 ^ n - 1) i ≡ 1
ones_below zero i l = absurd (omega arith)
ones_below (suc n) zero l = digit-zero 1 (2 ^ suc n - 1) ∙ omega (arith, pow-suc 2 n, pow_pos n)
ones_below (suc n) (suc i) l =
    let e : (2 ^ suc n - 1) / 2 ≡ 2 ^ n - 1 = omega (arith, pow-suc 2 n, pow_pos n) in
    digit-suc 1 (2 ^ suc n - 1) i ∙ rw e (ones_below n i (omega arith))

ones_above : (n i : ℕ) → n ≤ i → bit_in (2 ^ n - 1) i ≡ 0
ones_above zero i l = digit-none 1 i
ones_above (suc n) zero l = absurd (omega arith)
ones_above (suc n) (suc i) l =
    let e : (2 ^ suc n - 1) / 2 ≡ 2 ^ n - 1 = omega (arith, pow-suc 2 n, pow_pos n) in
    digit-suc 1 (2 ^ suc n - 1) i ∙ rw e (ones_above n i (omega arith))

pub low_bits : (n : ℕ) → LowBits n (2 ^ n - 1)
low_bits n = record {
  marks = λ i. ltb-cases (λ t. bit_in (2 ^ n - 1) i ≡ choose t 1 0) i n (ones_below n i) (ones_above n i);
}

pub low-bits-written : (n : ℕ) → n < 64 → LowBits n ((1 * 2 ^ n) % 2 ^ 64 - 1)
low-bits-written n l = rw (one_shifted n l) (low_bits n)
