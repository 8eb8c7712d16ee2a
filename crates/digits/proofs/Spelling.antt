-- Laws of texts read as numbers: which texts are numbers in decimal, and when one is too large for 64 bits.
use Prim.Native.Nat.{ℕ, suc, ◌+◌, ◌*◌, ◌-◌, ◌/◌, ◌%◌, ◌^◌, ◌≤◌, ◌<◌}
use mathlib.Core.Path.{◌≡◌, refl, sym, ◌∙◌, ap, subst}
use mathlib.Core.Logic.{◌≢◌}
use mathlib.Core.Bool.{true, false}
use mathlib.Core.List.{List, [], ◌∷◌, ◌++◌, append_assoc, append-nil}
use native.Mathlib.Decide.{ℕ_discrete}
use native.Mathlib.Omega.{arith}
use lib.ListN.{length, get_or, take, drop, take-append-drop, drop_of_length-le}
use lib.Seq.{take-suc, split_at}
use lib.Dec.{eqb}
use Rattle.std.specs.Prelude.{Ok, Err}
use Rattle.std.specs.List.{list_all}
use Rattle.std.specs.Char.{is_ascii_digit}
use borrow.Author.Tests.{eqb-true, eq-eqb, lt-ltb, le-ltb, le-leb}
use Rattle.lists.specs.Search.{All, nil, cons}
use Rattle.lists.proofs.Tests.{by_cases, eqb-cases, both_true, clash, test-cases, test-clash, test-fails}
use Rattle.lists.proofs.Lists.{first-is}
use Rattle.lists.proofs.Every.{all_head, all_right, all_map}
use Rattle.digits.specs.Numeral.{digit, same, decimal, value_from, value_in, is_decimal}
use Rattle.digits.specs.Inner.Value.{IsDigit, spelled}
use Rattle.digits.specs.declared.read.NumberError.TheVariants.{NoNumber, TooLarge}
use Rattle.digits.proofs.Numerals.{numeral-one, numeral-more, numeral-some, numeral-digits, numeral-first, numeral-value, value_from-append}

-- ---- texts that are the same
pub same-equal : (s t : List ℕ) → same s t ≡ true → s ≡ t
unfolding same
same-equal [] [] e = refl
same-equal [] (d ∷ t) e = clash (cc)
same-equal (c ∷ s) [] e = clash (cc)
same-equal (c ∷ s) (d ∷ t) e = let b = both_true _ _ e in rw (eqb-true c d b.0, same-equal s t b.1)

pub same_self : (s : List ℕ) → same s s ≡ true
unfolding same
same_self [] = refl
same_self (c ∷ s) = rw (eq-eqb c c refl, same_self s)

pub same_not : (s t : List ℕ) → (s ≡ t → ⊥) → same s t ≡ false
same_not s t n = test-fails _ (λ e. n (same-equal s t e))

-- ---- digits behind a number
all-at : {P : ℕ → Type 0} (l : List ℕ) (i : ℕ) → i < length l → All P l → P (get_or l i 0)
all-at {P} l i h a = all_head (all_right (take i l) (subst (All P) (split_at l i 0 h) a))

one-behind : (n x : ℕ) → 0 < n → x < 10 → decimal (n * 10 + x) ≡ decimal n ++ (digit x ∷ [])
one-behind n x h l =
    let q : (n * 10 + x) / 10 ≡ n = omega arith in
    let r : (n * 10 + x) % 10 ≡ x = omega arith in
    numeral-more 10 (omega arith) (n * 10 + x) (omega arith) ∙ rw (q, r)

all-behind : (n : ℕ) (ds : List ℕ) → 0 < n → All IsDigit ds → decimal (value_from 10 n ds) ≡ decimal n ++ ds
unfolding value_from digit
all-behind n [] h nil = sym (append-nil (decimal n))
all-behind n (d ∷ ds) h (cons p t) =
    let back : 48 + (d - 48) ≡ d = omega arith in
    all-behind (n * 10 + (d - 48)) ds (omega arith) t
    ∙ ap (λ (l : List ℕ). l ++ ds) (one-behind n (d - 48) h (omega arith))
    ∙ append_assoc (decimal n) _ ds
    ∙ ap (λ (y : ℕ). decimal n ++ (y ∷ ds)) back

-- ---- which texts are numbers
pub decimal-read : (n : ℕ) → is_decimal (decimal n) ≡ true
unfolding is_decimal
decimal-read n = rw (numeral-value 10 (omega arith) n) (same_self (decimal n))

pub decimal-is : (f : List ℕ) → is_decimal f ≡ true → f ≡ decimal (value_in 10 f)
unfolding is_decimal
decimal-is f e = same-equal f (decimal (value_in 10 f)) e

pub decimal-digits : (f : List ℕ) → is_decimal f ≡ true → All IsDigit f
unfolding digit
decimal-digits f e = subst (All IsDigit) (sym (decimal-is f e))
    (all_map (λ d h. (omega (arith, h.0), omega (arith, h.1))) (numeral-digits 10 (omega arith) (value_in 10 f)))

pub digit_at : (f : List ℕ) (i : ℕ) → is_decimal f ≡ true → i < length f → IsDigit (get_or f i 0)
digit_at f i e h = all-at f i h (decimal-digits f e)

pub no_digit : (f : List ℕ) (i : ℕ) → i < length f → (IsDigit (get_or f i 0) → ⊥) → is_decimal f ≡ false
no_digit f i h n = test-fails _ (λ e. n (digit_at f i e h))

pub none-decimal : (f : List ℕ) → length f ≡ 0 → is_decimal f ≡ false
none-decimal f z = test-fails _ (λ e.
    (let l : length f ≡ length (decimal (value_in 10 f)) = ap (λ (t : List ℕ). length t) (decimal-is f e) in
    omega (arith, numeral-some 10 (omega arith) (value_in 10 f))))

zero-digit : 48 ≡ digit 0
unfolding digit
zero-digit = refl

zero-alone : (f : List ℕ) → length f ≡ 1 → get_or f 0 0 ≡ 48 → is_decimal f ≡ true
zero-alone f e z = rw (only_one) (decimal-read 0)
  where
    only_one : f ≡ decimal 0
    only_one = first-is f 48 (omega arith) (sym z) ∙ ap (λ (l : List ℕ). 48 ∷ l) (drop_of_length-le f {i = 1} (omega arith))
        ∙ ap (λ (d : ℕ). d ∷ []) zero-digit ∙ sym (numeral-one 10 (omega arith) 0 (omega arith))

-- a zero in front stands alone
pub zero-first : (f : List ℕ) → get_or f 0 0 ≡ 48 → length f ≢ 0 → eqb (length f) 1 ≡ is_decimal f
zero-first f z n = eqb-cases (λ b. b ≡ is_decimal f) (length f) 1 (λ e. sym (zero-alone f e z)) (λ m. sym (test-fails _ (λ e. long e m)))
  where
    long : is_decimal f ≡ true → length f ≢ 1 → ⊥
    long e m = by_cases (ℕ_discrete (value_in 10 f) 0)
        (λ (v : value_in 10 f ≡ 0).
        let one : decimal 0 ≡ digit 0 ∷ [] = numeral-one 10 (omega arith) 0 (omega arith) in
        let whole : f ≡ digit 0 ∷ [] = decimal-is f e ∙ ap decimal v ∙ one in
        m (ap (λ (t : List ℕ). length t) whole))
        (λ (v : value_in 10 f ≢ 0).
        numeral-first 10 (omega arith) (value_in 10 f) v (ap (λ (t : List ℕ). get_or t 0 0) (sym (decimal-is f e)) ∙ z ∙ zero-digit))

-- digits alone, the first of them not zero
pub digits_decimal : (f : List ℕ) → length f ≢ 0 → get_or f 0 0 ≢ 48 → All IsDigit f → is_decimal f ≡ true
unfolding is_decimal value_from digit
digits_decimal [] n z a = absurd (n refl)
digits_decimal (d ∷ ds) n z (cons p t) =
    let v : 0 * 10 + (d - 48) < 10 = omega arith in
    let back : 48 + (0 * 10 + (d - 48)) ≡ d = omega arith in
    rw (all-behind (0 * 10 + (d - 48)) ds (omega arith) t, numeral-one 10 (omega arith) (0 * 10 + (d - 48)) v, back) (same_self (d ∷ ds))

-- the same, told by a test of each byte
digit-told : (d : ℕ) → is_ascii_digit d ≡ true → IsDigit d
digit-told d e = grind arith

all_told : (f : List ℕ) → All IsDigit f → list_all is_ascii_digit f ≡ true
all_told [] nil = refl
all_told (d ∷ ds) (cons p t) = rw (le-leb 48 d p.0, le-leb d 57 p.1, all_told ds t)

digits-told : (f : List ℕ) → list_all is_ascii_digit f ≡ true → All IsDigit f
digits-told [] e = nil
digits-told (d ∷ ds) e = let b = both_true _ _ e in cons (digit-told d b.0) (digits-told ds b.1)

pub test-told : (f : List ℕ) → length f ≢ 0 → get_or f 0 0 ≢ 48 → list_all is_ascii_digit f ≡ is_decimal f
test-told f n z = test-cases (λ b. b ≡ is_decimal f) (list_all is_ascii_digit f) (λ e. sym (digits_decimal f n z (digits-told f e)))
    (λ e. sym (test-fails _ (λ d. test-clash (all_told f (decimal-digits f d)) e)))

-- ---- what they spell
grows : (n : ℕ) (ds : List ℕ) → n ≤ value_from 10 n ds
unfolding value_from digit
grows n [] = omega arith
grows n (d ∷ ds) = omega (arith, grows (n * 10 + (d - 48)) ds)

pub value_none : value_in 10 [] ≡ 0
unfolding value_from
value_none = refl

-- one more digit
pub value-more : (f : List ℕ) (i : ℕ) → i < length f → value_in 10 (take (suc i) f) ≡ value_in 10 (take i f) * 10 + (get_or f i 0 - 48)
unfolding value_from digit
value-more f i h = rw (take-suc f i 0 h, value_from-append 10 0 (take i f))

-- a text whose first digits spell too much spells too much
pub too_large : (f : List ℕ) (i : ℕ) → is_decimal f ≡ true → i < length f → 2 ^ 64 ≤ value_in 10 (take i f) * 10 + (get_or f i 0 - 48) → Err TooLarge ≡ spelled f
unfolding spelled
too_large f i e h g =
    let all : value_in 10 f ≡ value_from 10 (value_in 10 (take (suc i) f)) (drop (suc i) f) =
    ap (value_in 10) (sym (take-append-drop (suc i) f)) ∙ value_from-append 10 0 (take (suc i) f) (drop (suc i) f) in
    let large : 2 ^ 64 ≤ value_in 10 f = omega (arith, all, value-more f i h, grows (value_in 10 (take (suc i) f)) (drop (suc i) f)) in
    rw (e, le-ltb _ _ large)

pub fits : (f : List ℕ) → is_decimal f ≡ true → value_in 10 f < 2 ^ 64 → Ok (value_in 10 f) ≡ spelled f
unfolding spelled
fits f e l = rw (e, lt-ltb _ _ l)

pub no_number : (f : List ℕ) → is_decimal f ≡ false → Err NoNumber ≡ spelled f
unfolding spelled
no_number f e = rw e
