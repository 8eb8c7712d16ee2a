-- Laws of numerals: their length, their digits, no leading zero, and that they spell their number.
use Prim.Native.Nat.{ℕ, zero, suc, ◌+◌, ◌/◌, ◌%◌, ◌^◌, ◌≤◌, ◌<◌}
use mathlib.Core.Path.{◌≡◌, refl, sym, ◌∙◌, ap}
use mathlib.Core.Logic.{◌≢◌}
use mathlib.Core.List.{List, [], ◌∷◌, ◌++◌}
use native.Mathlib.Nat.{one-mul, pow-zero, pow-suc, mod-lt, div-add-mod', div-lt_self, div-lt_iff_lt-mul, le-div_iff_mul-le}
use native.Mathlib.Decide.{dec_lt}
use native.Mathlib.Omega.{arith}
use lib.ListN.{length, get_or, length-append, get_or-append}
use borrow.Author.Tests.{lt-ltb, le-ltb}
use Rattle.lists.specs.Search.{All, nil, cons}
use Rattle.lists.proofs.Tests.{by_cases}
use Rattle.lists.proofs.Every.{all_append}
use Rattle.digits.specs.Numeral.{digit, numeral_in, numeral, decimal, value_from, value_in}
use Rattle.digits.specs.Inner.Value.{binary}

append-from : (base : ℕ) (ds : List ℕ) (n : ℕ) (es : List ℕ) → value_from base n (ds ++ es) ≡ value_from base (value_from base n ds) es
unfolding value_from
append-from base [] n es = refl
append-from base (d ∷ ds) n es = append-from base ds _ es

pub value_from-append : (base n : ℕ) (ds es : List ℕ) → value_from base n (ds ++ es) ≡ value_from base (value_from base n ds) es
value_from-append base n ds es = append-from base ds n es

module _ (base : ℕ) (two : 2 ≤ base) where
  in_one : (most n : ℕ) → n < base → numeral_in base (suc most) n ≡ digit n ∷ []
  unfolding numeral_in
  in_one most n h = rw (lt-ltb n base h, numeral_in)

  in-more : (most n : ℕ) → base ≤ n → numeral_in base (suc most) n ≡ numeral_in base most (n / base) ++ (digit (n % base) ∷ [])
  unfolding numeral_in
  in-more most n h = rw (le-ltb n base h, numeral_in)

  rest-less : (n : ℕ) → base ≤ n → n / base < n
  rest-less n h = div-lt_self (omega arith) two

  in-enough : (m k n : ℕ) → n < m → n < k → numeral_in base m n ≡ numeral_in base k n
  in-enough zero k n hm hk = absurd (omega arith)
  in-enough (suc m) zero n hm hk = absurd (omega arith)
  in-enough (suc m) (suc k) n hm hk =
      by_cases (dec_lt n base)
      (λ (h : n < base). rw (in_one m n h, in_one k n h))
      (λ (h : ¬ (n < base)).
      let l : base ≤ n = omega arith in
      rw (in-more m n l, in-more k n l, in-enough m k (n / base) (omega (arith, rest-less n l)) (omega (arith, rest-less n l))))

  pub numeral-one : (n : ℕ) → n < base → numeral base n ≡ digit n ∷ []
  unfolding numeral
  numeral-one n h = in_one n n h

  pub numeral-more : (n : ℕ) → base ≤ n → numeral base n ≡ numeral base (n / base) ++ (digit (n % base) ∷ [])
  unfolding numeral
  numeral-more n h =
      in-more n n h
      ∙ ap (λ (l : List ℕ). l ++ (digit (n % base) ∷ [])) (in-enough n (suc (n / base)) (n / base) (rest-less n h) (omega arith))

  -- what holds of one digit, and of one more behind a numeral of which it holds, holds of every numeral
  numeral-ind : (P : ℕ → List ℕ → Type 0) → ((n : ℕ) → n < base → P n (digit n ∷ [])) →
      ((n : ℕ) → base ≤ n → P (n / base) (numeral base (n / base)) → P n (numeral base (n / base) ++ (digit (n % base) ∷ []))) →
      (n : ℕ) → P n (numeral base n)
  numeral-ind P one step n = go (suc n) n (omega arith)
    where
      go : (most m : ℕ) → m < most → P m (numeral base m)
      go zero m l = absurd (omega arith)
      go (suc most) m l =
          by_cases (dec_lt m base)
          (λ (h : m < base). rw (numeral-one m h) (one m h))
          (λ (h : ¬ (m < base)).
          let g : base ≤ m = omega arith in rw (numeral-more m g) (step m g (go most (m / base) (omega (arith, rest-less m g)))))

  -- ---- length
  pub numeral-longer : (n : ℕ) → base ≤ n → length (numeral base n) ≡ length (numeral base (n / base)) + 1
  numeral-longer n h = rw (numeral-more n h, length-append)

  pub numeral-some : (n : ℕ) → 1 ≤ length (numeral base n)
  numeral-some = numeral-ind (λ n l. 1 ≤ length l) (λ n h. omega arith) (λ n h s. rw length-append (omega arith))

  -- a number below base ^ k has at most k digits
  pub numeral-length : (k n : ℕ) → n < base ^ suc k → length (numeral base n) ≤ suc k
  numeral-length zero n h = rw (numeral-one n (rw (pow-suc, pow-zero, one-mul) at h)) (omega arith)
  numeral-length (suc k) n h =
      by_cases (dec_lt n base)
      (λ (l : n < base). rw (numeral-one n l) (omega arith))
      (λ (m : ¬ (n < base)).
      let l : base ≤ n = omega arith in
      let rest : n / base < base ^ suc k = (div-lt_iff_lt-mul (omega arith)).1 (rw pow-suc at h) in
      omega (arith, numeral-longer n l, numeral-length k (n / base) rest))

  -- ---- digits
  pub numeral-digits : (n : ℕ) → All (λ d. (digit 0 ≤ d) × (d < digit base)) (numeral base n)
  unfolding digit
  numeral-digits =
      numeral-ind (λ n l. All (λ d. (48 ≤ d) × (d < 48 + base)) l) (λ n h. cons (omega arith, omega arith) nil)
      (λ n h s. all_append s (cons (omega arith, omega (arith, mod-lt n {m = base} (omega arith))) nil))

  -- "no leading zeros": the first digit of a number other than 0 is not 0
  pub numeral-first : (n : ℕ) → n ≢ 0 → get_or (numeral base n) 0 0 ≢ digit 0
  unfolding digit
  numeral-first =
      numeral-ind (λ n l. n ≢ 0 → get_or l 0 0 ≢ 48) (λ n h d e. d (omega arith))
      (λ n h s d e. s (λ z. (let q : 1 ≤ n / base = (le-div_iff_mul-le (omega arith)).1 (omega arith) in omega arith))
      (sym (get_or-append (numeral base (n / base)) _ 0 0 (numeral-some (n / base))) ∙ e))

  -- ---- value
  pub numeral-value : (n : ℕ) → value_in base (numeral base n) ≡ n
  unfolding value_from digit
  numeral-value =
      numeral-ind (λ n l. value_from base 0 l ≡ n) (λ n h. omega arith)
      (λ n h s. rw (value_from-append base 0, s) (omega (arith, div-add-mod' n base)))

  pub numeral-injective : (m n : ℕ) → numeral base m ≡ numeral base n → m ≡ n
  numeral-injective m n e = sym (numeral-value m) ∙ ap (value_in base) e ∙ numeral-value n

-- 64 bits have at most 20 digits
pub decimal-word : (n : ℕ) → n < 2 ^ 64 → length (decimal n) ≤ 20
decimal-word n h = numeral-length 10 (omega arith) 19 n (omega arith)

-- No. 13's "shortest binary": no zero in front
pub binary-four : binary 4 ≡ digit 1 ∷ digit 0 ∷ digit 0 ∷ []
unfolding numeral numeral_in
binary-four = refl
