-- Numbers side by side in a word, one place at a time: one of them replaced, some left out, and that a word is what they are.
use Rattle.std.proofs.Common.{◌≡◌, ℕ, zero, suc, ◌+◌, ◌*◌, ◌/◌, ◌%◌, ◌^◌, ◌<◌, ◌≤◌, ◌≢◌, sym, refl, ap, ◌∙◌, ap₂, le_trans, add-zero, add_assoc, mul-le-mul_right, mod-lt, mod-eq_of_lt, mul_assoc, suc-mul, mul_comm, div-lt_iff_lt-mul, add-mul, div-add-mod', zero-mul, mul-one, div-mul-le_self, div-one, arith, pow_pos, pow-add, shr-shr}
use mathlib.Core.Path.{fun_ext}
use native.Mathlib.Nat.{zero-div, div-div-eq-div-mul, add-mul-div_right, add-mul-mod_self_right}
use native.Mathlib.Nat.{zero-mod, mod-one, mod-le}
use lib.Arith.{digits_div, digits_mod, mod-mul}
use Rattle.lists.specs.Table.{update}
use Rattle.lists.proofs.Tables.{update-ind}
use Rattle.words.specs.Inner.Digits.{digit}

-- what the number at a place counts by
abbrev pub place : ℕ → ℕ → ℕ
place bits p = 2 ^ (p * bits)

pub place-suc : (bits p : ℕ) → place bits (suc p) ≡ place bits p * 2 ^ bits
place-suc bits p = rw suc-mul (pow-add 2 (p * bits) bits)

-- r is w with n at p
abbrev pub Replaced : ℕ → ℕ → ℕ → ℕ → ℕ → Type 0
Replaced bits w p n r = r + digit bits w p * place bits p ≡ w + n * place bits p

module _ (bits : ℕ) where
  abbrev base : ℕ
  base = 2 ^ bits

  pub digit-zero : (w : ℕ) → digit bits w 0 ≡ w % base
  unfolding digit
  digit-zero w = rw (zero-mul, div-one)

  pub digit-suc : (w p : ℕ) → digit bits w (suc p) ≡ digit bits (w / base) p
  unfolding digit
  digit-suc w p = rw (place-suc bits p, mul_comm (place bits p) base, div-div-eq-div-mul)

  pub digit_lt : (w p : ℕ) → digit bits w p < base
  unfolding digit
  digit_lt w p = mod-lt (w / place bits p) (pow_pos bits)

  -- a number is part of its word
  pub digit-le : (w p : ℕ) → digit bits w p * place bits p ≤ w
  unfolding digit
  digit-le w p = le_trans (mul-le-mul_right (place bits p) (mod-le (w / place bits p) base)) (div-mul-le_self w (place bits p))

  -- nothing stands in a word of zeros
  pub digit-none : (p : ℕ) → digit bits 0 p ≡ 0
  unfolding digit
  digit-none p = rw (zero-div, zero-mod)

  -- a small number is its own lowest digit
  pub digit_low : (d : ℕ) → d < base → digit bits d 0 ≡ d
  digit_low d l = digit-zero d ∙ mod-eq_of_lt l

  -- without its lowest digit a word has a place less
  rest-fits : (k w : ℕ) → w < place bits (suc k) → w / base < place bits k
  rest-fits k w f = (div-lt_iff_lt-mul (pow_pos bits)).1 (rw (place-suc bits k) at f)

  fits-rest : (k w : ℕ) → w / base < place bits k → w < place bits (suc k)
  fits-rest k w f = rw (place-suc bits k) ((div-lt_iff_lt-mul (pow_pos bits)).0 f)

  -- two words with the same digits are one
  pub digits_same : (n w w' : ℕ) → w < place bits n → w' < place bits n → ((p : ℕ) → p < n → digit bits w p ≡ digit bits w' p) → w ≡ w'
  digits_same zero w w' f f' h = let g : w < 1 = rw (zero-mul bits) at f in let g' : w' < 1 = rw (zero-mul bits) at f' in omega arith
  digits_same (suc n) w w' f f' h =
      sym (div-add-mod' w base)
      ∙ ap₂ (λ (q d : ℕ). q * base + d)
      (digits_same n (w / base) (w' / base) (rest-fits n w f) (rest-fits n w' f') (λ p l. sym (digit-suc w p) ∙ h (suc p) (omega arith) ∙ digit-suc w' p))
      (sym (digit-zero w) ∙ h 0 (omega arith) ∙ digit-zero w')
      ∙ div-add-mod' w' base

  -- ---- one more below all others

  pub digit-pushed : (w d : ℕ) → d < base → digit bits (w * base + d) 0 ≡ d
  digit-pushed w d l = digit-zero (w * base + d) ∙ digits_mod w l

  pub digit-moved : (w d p : ℕ) → d < base → digit bits (w * base + d) (suc p) ≡ digit bits w p
  digit-moved w d p l = digit-suc (w * base + d) p ∙ ap (λ (v : ℕ). digit bits v p) (digits_div w l)

  -- ---- one of them replaced

  -- one place down
  down : (w p n r : ℕ) → Replaced bits w (suc p) n r → (Replaced bits (w / base) p n (r / base)) × (r % base ≡ w % base)
  down w p n r h =
      let x = digit bits (w / base) p * place bits p in
      let y = n * place bits p in
      let ex : digit bits w (suc p) * place bits (suc p) ≡ x * base = rw (digit-suc w p, place-suc bits p, mul_assoc) in
      let ey : n * place bits (suc p) ≡ y * base = rw (place-suc bits p, mul_assoc) in
      let e : r + x * base ≡ w + y * base = rw (ex, ey) at h in (
        sym (add-mul-div_right r x (pow_pos bits)) ∙ ap (λ (v : ℕ). v / base) e ∙ add-mul-div_right w y (pow_pos bits),
        sym (add-mul-mod_self_right r x base) ∙ ap (λ (v : ℕ). v % base) e ∙ add-mul-mod_self_right w y base,
      )

  low : (w n r : ℕ) → n < base → Replaced bits w 0 n r → (r / base ≡ w / base) × (r % base ≡ n)
  low w n r l h =
      let g : r + w % base ≡ w + n = rw (digit-zero w, zero-mul, mul-one, mul-one) at h in
      let e : r ≡ w / base * base + n = omega (arith, div-add-mod' w base) in
      rw e (digits_div (w / base) l, digits_mod (w / base) l)

  same : (p w n r : ℕ) → n < base → Replaced bits w p n r → digit bits r p ≡ n
  same zero w n r l h = digit-zero r ∙ (low w n r l h).1
  same (suc p) w n r l h = digit-suc r p ∙ same p (w / base) n (r / base) l (down w p n r h).0

  other : (p q w n r : ℕ) → n < base → Replaced bits w p n r → q ≢ p → digit bits r q ≡ digit bits w q
  other zero zero w n r l h d = absurd (d refl)
  other zero (suc q) w n r l h d = rw (digit-suc, digit-suc, (low w n r l h).0)
  other (suc p) zero w n r l h d = rw (digit-zero, digit-zero, (down w p n r h).1)
  other (suc p) (suc q) w n r l h d =
      rw (digit-suc, digit-suc) (other p q (w / base) n (r / base) l (down w p n r h).0 (λ e. d (ap suc e)))

  pub replaced : (w p n r : ℕ) → n < base → Replaced bits w p n r → digit bits r ≡ update (digit bits w) p n
  replaced w p n r l h =
      fun_ext (update-ind (digit bits w) p n (λ q v. digit bits r q ≡ v) (same p w n r l h) (λ q d. other p q w n r l h d))

  -- a word of k places stays one
  pub replaced-fits : (k w p n r : ℕ) → p < k → n < base → w < place bits k → Replaced bits w p n r → r < place bits k
  replaced-fits zero w p n r a l f h = absurd (omega arith)
  replaced-fits (suc k) w zero n r a l f h = fits-rest k r (rw (low w n r l h).0 (rest-fits k w f))
  replaced-fits (suc k) w (suc p) n r a l f h =
      fits-rest k r (replaced-fits k (w / base) p n (r / base) (omega arith) l (rest-fits k w f) (down w p n r h).0)

  -- ---- those below a place, with one there and without, those from a place on, and all but that at a place

  below_suc : (w k : ℕ) → w % place bits (suc k) ≡ w / base % place bits k * base + w % base
  below_suc w k = rw (place-suc bits k) (mod-mul w {m = place bits k} {c = base} (pow_pos (k * bits)) (pow_pos bits))

  pub below-low : (w k p : ℕ) → p < k → digit bits (w % place bits k) p ≡ digit bits w p
  below-low w zero p l = absurd (omega arith)
  below-low w (suc k) zero l = rw below_suc (digit-pushed (w / base % place bits k) (w % base) (mod-lt w (pow_pos bits)) ∙ sym (digit-zero w))
  below-low w (suc k) (suc p) l =
      rw below_suc (digit-moved (w / base % place bits k) (w % base) p (mod-lt w (pow_pos bits)) ∙ below-low (w / base) k p (omega arith) ∙ sym (digit-suc w p))

  -- w below a place, and d there
  abbrev pub topped : ℕ → ℕ → ℕ → ℕ
  topped w k d = d * place bits k + w % place bits k

  pub topped-low : (w k d p : ℕ) → p < k → digit bits (topped w k d) p ≡ digit bits w p
  topped-low w k d p l =
      sym (below-low (topped w k d) k p l) ∙ ap (λ (v : ℕ). digit bits v p) (digits_mod d (mod-lt w (pow_pos (k * bits)))) ∙ below-low w k p l

  pub topped-high : (w k d : ℕ) → d < base → digit bits (topped w k d) k ≡ d
  unfolding digit
  topped-high w k d l = rw (digits_div d (mod-lt w (pow_pos (k * bits)))) (mod-eq_of_lt l)

  -- a word without its k lowest digits
  pub digit-from : (w k p : ℕ) → digit bits (w / place bits k) p ≡ digit bits w (k + p)
  unfolding digit
  digit-from w k p = rw (shr-shr, add-mul)

  abbrev pub without : ℕ → ℕ → ℕ
  without w k = w / place bits k / base * place bits k + w % place bits k

  without-zero : (w : ℕ) → without w 0 ≡ w / base
  without-zero w = rw (zero-mul, div-one, mul-one, mod-one, add-zero)

  without-suc : (w k : ℕ) → without w (suc k) ≡ without (w / base) k * base + w % base
  without-suc w k =
      let d : w / (place bits k * base) ≡ w / base / place bits k = rw (mul_comm (place bits k) base, div-div-eq-div-mul) in
      rw (below_suc, place-suc bits k, d, ← mul_assoc, add-mul, add_assoc)

  pub without-low : (w k p : ℕ) → p < k → digit bits (without w k) p ≡ digit bits w p
  without-low w zero p l = absurd (omega arith)
  without-low w (suc k) zero l = rw without-suc (digit-pushed (without (w / base) k) (w % base) (mod-lt w (pow_pos bits)) ∙ sym (digit-zero w))
  without-low w (suc k) (suc p) l =
      rw without-suc
      (digit-moved (without (w / base) k) (w % base) p (mod-lt w (pow_pos bits)) ∙ without-low (w / base) k p (omega arith) ∙ sym (digit-suc w p))

  pub without-high : (w k p : ℕ) → k ≤ p → digit bits (without w k) p ≡ digit bits w (suc p)
  without-high w zero p l = rw (without-zero w) (sym (digit-suc w p))
  without-high w (suc k) zero l = absurd (omega arith)
  without-high w (suc k) (suc p) l =
      rw without-suc
      (digit-moved (without (w / base) k) (w % base) p (mod-lt w (pow_pos bits)) ∙ without-high (w / base) k p (omega arith) ∙ sym (digit-suc w (suc p)))
