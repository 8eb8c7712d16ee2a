-- Digits as the code writes them: w is a word of 64 bits, p one of its k places.
use Rattle.std.proofs.Common.{◌≡◌, ℕ, suc, ◌+◌, ◌-◌, ◌*◌, ◌/◌, ◌%◌, ◌^◌, ◌<◌, ◌≤◌, ◌≢◌, sym, ap, ◌∙◌, le_trans, le_of_eq, mul-le-mul_right, mod-lt, mod-eq_of_lt, mul_assoc, suc-mul, mul_comm, add_comm, div-add-mod', le-mul_of_pos_right, div-mul-le_self, mul-div_cancel, arith, pow_pos, pow_mono, shl_exact}
use native.Mathlib.Nat.{mod-le, zero-mod, div-div-eq-div-mul}
use Rattle.lists.specs.Table.{update}
use Rattle.words.specs.Inner.Digits.{digit, Above, Pushed, Topped, Without}
use Rattle.words.proofs.Digits.{place, place-suc, Replaced, replaced, replaced-fits, digit_lt, digit-le, digit-none, digit-from}
use Rattle.words.proofs.Digits.{digit-pushed, digit-moved}
use Rattle.words.proofs.Digits.{below-low, topped, topped-low, topped-high, without, without-low, without-high}

pub one_shifted : (n : ℕ) → n < 64 → (1 * 2 ^ n) % 2 ^ 64 ≡ 2 ^ n
one_shifted n l = rw (shl_exact {a = 1} 1 n 64 (omega arith) (omega arith)) (omega arith)

pub one-pos : (n : ℕ) → n < 64 → 0 < (1 * 2 ^ n) % 2 ^ 64
one-pos n l = rw (one_shifted n l) (pow_pos n)

module _ (bits k w p : ℕ) (e : k * bits ≡ 64) (a : p < k) (f : w < 2 ^ 64) where
  shifted : (d : ℕ) → d < 2 ^ bits → (d * place bits p) % 2 ^ 64 ≡ d * place bits p
  shifted d l = shl_exact bits (p * bits) 64 l (omega (arith, suc-mul p bits, mul-le-mul_right bits a))

  fits : (n r : ℕ) → n < 2 ^ bits → Replaced bits w p n r → r < 2 ^ 64
  fits n r l h = rw e at (replaced-fits bits k w p n r a l (rw e f) h)

  pub taken : (digit bits w p * place bits p) % 2 ^ 64 ≤ w
  taken = le_trans (mod-le (digit bits w p * place bits p) (2 ^ 64)) (digit-le bits w p)

  module _ (n : ℕ) (l : n < 2 ^ bits) where
    abbrev written : ℕ
    written = w - (digit bits w p * place bits p) % 2 ^ 64 + (n * place bits p) % 2 ^ 64

    written_is : Replaced bits w p n written
    written_is = rw (shifted (digit bits w p) (digit_lt bits w p), shifted n l) (omega (arith, digit-le bits w p))

    pub written-fits : written < 2 ^ 64
    written-fits = fits n written l written_is

    pub written-digits : digit bits written ≡ update (digit bits w) p n
    written-digits = replaced bits w p n written l written_is

  module _ (l : suc (digit bits w p) < 2 ^ bits) where
    abbrev more : ℕ
    more = w + (1 * place bits p) % 2 ^ 64

    more-is : Replaced bits w p (suc (digit bits w p)) more
    more-is = rw (shifted 1 (omega arith), suc-mul (digit bits w p) (place bits p)) (omega arith)

    pub more-fits : more < 2 ^ 64
    more-fits = fits (suc (digit bits w p)) more l more-is

    pub more-digits : digit bits more ≡ update (digit bits w) p (suc (digit bits w p))
    more-digits = replaced bits w p (suc (digit bits w p)) more l more-is

  module _ (l : 0 < digit bits w p) where
    one : (1 * place bits p) % 2 ^ 64 ≡ 1 * place bits p
    one = shifted 1 (omega (arith, digit_lt bits w p))

    pub less-within : (1 * place bits p) % 2 ^ 64 ≤ w
    less-within = rw one (le_trans (mul-le-mul_right (place bits p) l) (digit-le bits w p))

    pub less-digits : digit bits (w - (1 * place bits p) % 2 ^ 64) ≡ update (digit bits w) p (digit bits w p - 1)
    less-digits =
        let b : 1 * place bits p ≤ w = rw one at less-within in
        let s : digit bits w p ≡ suc (digit bits w p - 1) = omega arith in
        let m : digit bits w p * place bits p ≡ (digit bits w p - 1) * place bits p + place bits p =
        ap (λ (x : ℕ). x * place bits p) s ∙ suc-mul (digit bits w p - 1) (place bits p) in
        replaced bits w p (digit bits w p - 1) (w - (1 * place bits p) % 2 ^ 64) (omega (arith, digit_lt bits w p)) (rw one (omega arith))

-- ---- bytes

pub pushed : (w b : ℕ) → b < 256 → Pushed w b ((w * 2 ^ 8) % 2 ^ 64 + b)
pushed w b l =
    let e : (w * 2 ^ 8) % 2 ^ 64 ≡ w % 2 ^ 56 * 2 ^ 8 = omega arith in
    rw e record { lowest = digit-pushed 8 (w % 2 ^ 56) b l; above = λ i g. digit-moved 8 (w % 2 ^ 56) b i l ∙ below-low 8 w 7 i g }

module _ (w i : ℕ) (a : i < 8) where
  shift : (1 * place 8 i) % 2 ^ 64 ≡ place 8 i
  shift = one_shifted (i * 8) (omega arith)

  module _ (b : ℕ) (l : b < 256) where
    abbrev highest : ℕ
    highest = w % ((1 * place 8 i) % 2 ^ 64) + (b * place 8 i) % 2 ^ 64

    highest-is : highest ≡ topped 8 w i b
    highest-is = rw (shift, shl_exact {a = b} 8 (i * 8) 64 l (omega arith)) (add_comm (w % place 8 i) (b * place 8 i))

    pub highest-fits : highest < 2 ^ 64
    highest-fits =
        let m : b * place 8 i ≤ 255 * place 8 i = mul-le-mul_right (place 8 i) (omega arith) in
        rw highest-is (omega (arith, mod-lt w (pow_pos (i * 8)), pow_mono {i = i * 8} {j = 56} (omega arith)))

    pub highest-topped : Topped w i b highest
    highest-topped = rw highest-is record { below = topped-low 8 w i b; highest = topped-high 8 w i b l }

  module _ (f : w < 2 ^ 64) where
    abbrev removed : ℕ
    removed = (w / place 8 i / 256 * place 8 i) % 2 ^ 64 + w % ((1 * place 8 i) % 2 ^ 64)

    high_le : w / place 8 i / 256 * place 8 i ≤ w / 256
    high_le =
        let e = div-div-eq-div-mul w (place 8 i) 256 ∙ ap (λ (x : ℕ). w / x) (mul_comm (place 8 i) 256) ∙ sym (div-div-eq-div-mul w 256 (place 8 i)) in
        le_trans (le_of_eq (ap (λ (x : ℕ). x * place 8 i) e))
        (div-mul-le_self (w / 256) (place 8 i))

    removed-is : removed ≡ without 8 w i
    removed-is = rw (shift, mod-eq_of_lt {n = w / place 8 i / 256 * place 8 i} {m = 2 ^ 64} (omega (arith, high_le)))

    pub removed-fits : removed < 2 ^ 64
    removed-fits =
        let low = mod-lt w (pow_pos (i * 8)) in
        rw shift (omega (arith, high_le, mod-le (w / place 8 i / 256 * place 8 i) (2 ^ 64), low, pow_mono {i = i * 8} {j = 56} (omega arith)))

    pub removed-without : Without w i removed
    removed-without = rw removed-is record { below = without-low 8 w i; above = without-high 8 w i }

-- ---- lengths

module _ (w p : ℕ) (a : p < 16) (f : w < 2 ^ 64) where
  abbrev above : ℕ
  above = (((w / place 4 p / 16 * 16) % 2 ^ 64) * place 4 p) % 2 ^ 64

  -- what stands above the place
  abbrev high : ℕ
  high = w / place 4 (suc p)

  high_is : w / place 4 p / 16 ≡ high
  high_is = rw (place-suc 4 p) (div-div-eq-div-mul w (place 4 p) 16)

  high-within : high * place 4 (suc p) ≤ w
  high-within = div-mul-le_self w (place 4 (suc p))

  above-is : above ≡ high * place 4 (suc p)
  above-is =
      let e : high * 16 * place 4 p ≡ high * place 4 (suc p) = rw (place-suc 4 p, mul_assoc, mul_comm 16 (place 4 p)) in
      let g : high * 16 * place 4 p < 2 ^ 64 = rw e (omega (arith, high-within)) in
      let l : high * 16 < 2 ^ 64 = omega (arith, le-mul_of_pos_right (high * 16) (pow_pos (p * 4))) in
      rw (high_is, mod-eq_of_lt l, mod-eq_of_lt g) e

  -- as a word with nothing below the place behind it
  topped-is : above ≡ topped 4 0 (suc p) high
  topped-is = rw (above-is, zero-mod) (omega arith)

  pub above-lengths : Above w p above
  above-lengths = record {
    gone = λ q l. rw topped-is (topped-low 4 0 (suc p) high q (omega arith) ∙ digit-none 4 q);
    kept = λ q l.
        let z : suc p + (q - suc p) ≡ q = omega arith in
        let d : above / place 4 (suc p) ≡ high = rw above-is (mul-div_cancel high (pow_pos (suc p * 4))) in
        rw z at (sym (digit-from 4 above (suc p) (q - suc p)) ∙ ap (λ (v : ℕ). digit 4 v (q - suc p)) d ∙ digit-from 4 w (suc p) (q - suc p));
    less = λ n.
        let some : w % place 4 (suc p) ≢ 0 = λ z. n (sym (below-low 4 w (suc p) p (omega arith)) ∙ ap (λ (v : ℕ). digit 4 v p) z ∙ digit-none 4 p) in
        rw above-is (omega (arith, div-add-mod' w (place 4 (suc p)), some));
  }
