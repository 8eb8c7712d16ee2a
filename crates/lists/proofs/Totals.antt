-- Laws of `total` and `total_below`.
use Prim.Native.Nat.{ℕ, zero, suc, ◌+◌, ◌<◌}
use mathlib.Core.Path.{◌≡◌, refl}
use mathlib.Core.Logic.{◌≢◌}
use mathlib.Core.List.{List, [], ◌∷◌, ◌++◌}
use native.Mathlib.Decide.{ℕ_discrete}
use native.Mathlib.Omega.{arith}
use Rattle.lists.specs.Count.{total, total_below}
use Rattle.lists.proofs.Tests.{by_cases}

pub total-append : {A : Type 0} (f : A → ℕ) (xs ys : List A) → total f (xs ++ ys) ≡ total f xs + total f ys
total-append f [] ys = omega arith
total-append f (x ∷ xs) ys = omega (arith, total-append f xs ys)

-- ---- functions at the numbers below n
pub totals-none : (n : ℕ) (f : ℕ → ℕ) → ((i : ℕ) → i < n → f i ≡ 0) → total_below n f ≡ 0
unfolding total_below
totals-none zero f h = refl
totals-none (suc n) f h = omega (arith, h n (omega arith), totals-none n f (λ i l. h i (omega arith)))

pub totals-same : (n : ℕ) (f g : ℕ → ℕ) → ((i : ℕ) → i < n → g i ≡ f i) → total_below n g ≡ total_below n f
unfolding total_below
totals-same zero f g h = refl
totals-same (suc n) f g h = omega (arith, h n (omega arith), totals-same n f g (λ i l. h i (omega arith)))

-- g has v more than f at one number, and agrees with it at all others
pub totals-more : (n : ℕ) (f g : ℕ → ℕ) (x v : ℕ) → x < n → g x ≡ f x + v → ((i : ℕ) → i ≢ x → g i ≡ f i) → total_below n g ≡ total_below n f + v
unfolding total_below
totals-more zero f g x v l e h = absurd (omega arith)
totals-more (suc n) f g x v l e h = by_cases (ℕ_discrete x n)
    (λ (z : x ≡ n). let here : g n ≡ f n + v = rw z at e in omega (arith, totals-same n f g (λ i m. h i (omega arith))))
    (λ (d : x ≢ n). omega (arith, h n (omega arith), totals-more n f g x v (omega arith) e h))

-- the same of tables of two numbers
pub table_more : (n m : ℕ) (f g : ℕ → ℕ → ℕ) (s p v : ℕ) → s < n → p < m → g s p ≡ f s p + v → ((i j : ℕ) → ¬ ((i ≡ s) × (j ≡ p)) → g i j ≡ f i j)
    → total_below n (λ i. total_below m (g i)) ≡ total_below n (λ i. total_below m (f i)) + v
table_more n m f g s p v l l' e h =
    totals-more n (λ i. total_below m (f i)) (λ i. total_below m (g i)) s v l
    (totals-more m (f s) (g s) p v l' e (λ j d. h s j (λ z. d z.1)))
    (λ i d. totals-same m (f i) (g i) (λ j _. h i j (λ z. d z.0)))
