-- The lists of the elements one after another, and a stack of lists.
use Prim.Native.Nat.{ℕ, zero, suc, ◌≤◌, ◌<◌}
use mathlib.Core.Path.{◌≡◌, refl}
use mathlib.Core.Logic.{◌≢◌}
use mathlib.Core.List.{List, [], ◌∷◌, ◌++◌, append_assoc}
use native.Mathlib.Decide.{ℕ_discrete}
use native.Mathlib.Omega.{arith}
use Rattle.lists.specs.Search.{All, nil, cons}
use Rattle.lists.specs.Count.{count}
use Rattle.lists.proofs.Tests.{by_cases}
use Rattle.lists.proofs.Every.{all_append}
use Rattle.lists.proofs.Counts.{count-append}

-- ---- the lists of the elements, one after another
abbrev pub concat : {A B : Type 0} → (A → List B) → List A → List B
concat f [] = []
concat f (x ∷ xs) = f x ++ concat f xs

pub concat-append : {A B : Type 0} (f : A → List B) (xs ys : List A) → concat f (xs ++ ys) ≡ concat f xs ++ concat f ys
concat-append f [] ys = refl
concat-append f (x ∷ xs) ys = rw (concat-append f xs ys, append_assoc)

pub concat-eq : {A B : Type 0} (f g : A → List B) {xs : List A} → All (λ x. f x ≡ g x) xs → concat f xs ≡ concat g xs
concat-eq f g nil = refl
concat-eq f g (cons h t) = rw (h, concat-eq f g t)

pub all-concat : {A B : Type 0} {P : B → Type 0} (f : A → List B) {xs : List A} → All (λ x. All P (f x)) xs → All P (concat f xs)
all-concat f nil = nil
all-concat f (cons h t) = all_append h (all-concat f t)

-- ---- a stack of lists, the highest first
abbrev pub stack : {A : Type 0} → (ℕ → List A) → ℕ → List A
stack f zero = f zero
stack f (suc j) = f (suc j) ++ stack f j

-- a stack of which only the lowest list is not empty
pub stack-lowest : {A : Type 0} (f : ℕ → List A) → ((j : ℕ) → f (suc j) ≡ []) → (n : ℕ) → stack f n ≡ f 0
stack-lowest f h zero = refl
stack-lowest f h (suc n) = rw (h n, stack-lowest f h n)

module _ {A : Type 0} (f f' : ℕ → List A) where
  pub stack_same : (j : ℕ) → ((i : ℕ) → i ≤ j → f' i ≡ f i) → stack f' j ≡ stack f j
  stack_same zero h = h 0 (omega arith)
  stack_same (suc j) h = rw (h (suc j) (omega arith), stack_same j (λ i l. h i (omega arith)))

  -- what leaves the highest list at its front
  pub stack-leaves : (s : ℕ) (ys : List A) → ((i : ℕ) → i < s → f' i ≡ f i) → f s ≡ ys ++ f' s → stack f s ≡ ys ++ stack f' s
  stack-leaves zero ys h e = e
  stack-leaves (suc s) ys h e = rw (e, stack_same s (λ i l. h i (omega arith)), append_assoc)

  -- what goes from the front of level s to the end of level s + 1
  pub stack-onward : (s : ℕ) (ys : List A) → ((i : ℕ) → i ≢ s → i ≢ suc s → f' i ≡ f i) → f s ≡ ys ++ f' s → f' (suc s) ≡ f (suc s) ++ ys
      → (j : ℕ) → s < j → stack f' j ≡ stack f j
  stack-onward s ys h e e' zero l = absurd (omega arith)
  stack-onward s ys h e e' (suc j) l = by_cases (ℕ_discrete s j)
      (λ (q : s ≡ j). rw (← q, e', stack-leaves s ys (λ i l'. h i (omega arith) (omega arith)) e, append_assoc))
      (λ (n : s ≢ j). rw (stack-onward s ys h e e' j (omega arith), h (suc j) (omega arith) (omega arith)))

-- the lowest list of a stack is in it
pub stack-count : {A : Type 0} (key : A → ℕ) (u : ℕ) (f : ℕ → List A) (n : ℕ) → count key u (f 0) ≤ count key u (stack f n)
stack-count key u f zero = omega arith
stack-count key u f (suc n) = rw count-append (omega (arith, stack-count key u f n))
