-- The first place of a word whose digit is not 0, by the zeros below the lowest set bit.
use Rattle.std.proofs.Common.{◌≡◌, ℕ, zero, suc, ◌+◌, ◌*◌, ◌/◌, ◌%◌, ◌^◌, ◌<◌, ◌≤◌, ◌≢◌, sym, refl, ap, ◌∙◌, suc-mul, add_comm, suc-add, pow-suc, div-add-mod', zero-add, zero-mul, mul-one, add-one, arith, pow_pos}
use native.Mathlib.Nat.{zero-div, mod-one, add-div_left, div-eq_of_lt}
use native.Mathlib.Decide.{ℕ_discrete, dec_le}
use lib.Arith.{mod-mul}
use lib.Bits.{shifted_half, shifted_even}
use lib.Count.{count_trailing_zeros, under}
use Rattle.lists.proofs.Tests.{by_cases}
use Rattle.words.specs.Inner.Digits.{digit, FirstBusy}
use Rattle.words.proofs.Digits.{digit-none, digit-zero, digit-suc, digits_same}

shifted : (n k z : ℕ) → count_trailing_zeros (n + k) (z * 2 ^ n) ≡ n + count_trailing_zeros k z
unfolding count_trailing_zeros
shifted zero k z = rw (zero-add, mul-one, zero-add)
shifted (suc n) k z = rw (suc-add, shifted_even z n, shifted_half z n, shifted n k z) (omega arith)

-- of n bits that are not all 0, fewer are below the lowest that is set
inside : (n k w : ℕ) → w % 2 ^ n ≢ 0 → count_trailing_zeros (n + k) w < n
unfolding count_trailing_zeros
inside zero k w h = absurd (h (mod-one w))
inside (suc n) k w h =
    rw suc-add (one (w % 2) (count_trailing_zeros (n + k) (w / 2)) n
    (λ (e : w % 2 ≡ 0). inside n k (w / 2)
    (λ (z : w / 2 % 2 ^ n ≡ 0). h (rw (pow-suc 2 n) (omega (arith, mod-mul w {m = 2 ^ n} {c = 2} (pow_pos n) (omega arith)))))))
  where
    one : (d t m : ℕ) → (d ≡ 0 → t < m) → under d t < suc m
    one zero t m h = omega (arith, h refl)
    one (suc d) t m h = omega arith

-- r is the first of k places whose digit is not 0; k where there is none
record First (bits k w r : ℕ) : Type 0 where
  below : r ≤ k
  idle : (p : ℕ) → p < r → digit bits w p ≡ 0
  busy : r < k → digit bits w r ≢ 0

module _ (bits : ℕ) (b : 0 < bits) where
  room : (k : ℕ) → suc k * bits ≡ bits + k * bits
  room k = suc-mul k bits ∙ add_comm (k * bits) bits

  -- ---- one digit

  pub zeros-pass : (k w : ℕ) → w % 2 ^ bits ≡ 0 → count_trailing_zeros (suc k * bits) w / bits ≡ suc (count_trailing_zeros (k * bits) (w / 2 ^ bits) / bits)
  zeros-pass k w z =
      let e : w ≡ w / 2 ^ bits * 2 ^ bits = omega (arith, div-add-mod' w (2 ^ bits)) in
      ap (λ (n : ℕ). count_trailing_zeros n w / bits) (room k)
      ∙ ap (λ (v : ℕ). count_trailing_zeros (bits + k * bits) v / bits) e
      ∙ ap (λ (t : ℕ). t / bits) (shifted bits (k * bits) (w / 2 ^ bits))
      ∙ add-div_left (count_trailing_zeros (k * bits) (w / 2 ^ bits)) b
      ∙ add-one _

  pub zeros-stop : (k w : ℕ) → w % 2 ^ bits ≢ 0 → count_trailing_zeros (suc k * bits) w / bits ≡ 0
  zeros-stop k w n = rw (room k) (div-eq_of_lt (inside bits (k * bits) w n))

  -- ---- a word of k places

  first : (k w : ℕ) → First bits k w (count_trailing_zeros (k * bits) w / bits)
  unfolding count_trailing_zeros
  first zero w = rw (zero-mul bits, zero-div bits) record { below = omega arith; idle = λ p l. absurd (omega arith); busy = λ l. absurd (omega arith) }
  first (suc k) w =
      by_cases (ℕ_discrete (w % 2 ^ bits) 0)
      (λ (z : w % 2 ^ bits ≡ 0). rw (zeros-pass k w z) (on z (count_trailing_zeros (k * bits) (w / 2 ^ bits) / bits) (first k (w / 2 ^ bits))))
      (λ (n : w % 2 ^ bits ≢ 0). rw (zeros-stop k w n) record { below = omega arith; idle = λ p l. absurd (omega arith); busy = λ l. rw digit-zero n })
    where
      on : w % 2 ^ bits ≡ 0 → (r : ℕ) → First bits k (w / 2 ^ bits) r → First bits (suc k) w (suc r)
      on z r i = record { below = omega (arith, i.below); idle = lower; busy = λ l. rw digit-suc (i.busy (omega arith)) }
        where
          lower : (p : ℕ) → p < suc r → digit bits w p ≡ 0
          lower zero l = digit-zero bits w ∙ z
          lower (suc p) l = digit-suc bits w p ∙ i.idle p (omega arith)

-- ---- the lengths of a row

-- a row that is not 0 has a length that is not
pub first-busy : (w : ℕ) → w < 2 ^ 64 → w ≢ 0 → FirstBusy w (count_trailing_zeros 64 w / 4)
first-busy w f n = go (count_trailing_zeros 64 w / 4) (first 4 (omega arith) 16 w)
  where
    go : (r : ℕ) → First 4 16 w r → FirstBusy w r
    go r i =
        let inside : r < 16 =
        by_cases (dec_le 16 r)
        (λ (h : 16 ≤ r). absurd (n (digits_same 4 16 w 0 f (omega arith) (λ p l. i.idle p (omega arith) ∙ sym (digit-none 4 p)))))
        (λ (h : ¬ (16 ≤ r)). omega arith) in
        record { within = inside; idle = i.idle; busy = i.busy inside }
