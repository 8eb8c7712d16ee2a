-- Laws of where fields begin and end: the first field of a line is found by a walk past spaces and one past the field.
use Prim.Native.Nat.{ℕ, zero, suc, ◌+◌, ◌-◌, ◌≤◌, ◌<◌}
use mathlib.Core.Path.{◌≡◌, refl, sym, ◌∙◌, ap}
use mathlib.Core.Logic.{◌≢◌}
use mathlib.Core.Bool.{Bool, true, false}
use mathlib.Core.List.{List, [], ◌∷◌}
use native.Mathlib.Decide.{ℕ_discrete}
use native.Mathlib.Omega.{arith}
use lib.ListN.{length, get_or, take, drop, length-drop, length-take}
use lib.Seq.{take_all}
use Rattle.std.proofs.Common.{◌-◌, one-add, take_while, cond}
use Rattle.std.specs.List.{prefix_len}
use borrow.Author.Tests.{eq-eqb, ne_eqb}
use Rattle.lists.specs.Choice.{choose}
use Rattle.lists.proofs.Tests.{by_cases, test-cases}
use Rattle.lines.specs.Said.{leading, is_space, in_field, past_spaces, first_field, past_field, fields_up_to, fields}

-- ---- the elements in front of the first that fails a test
module _ (test : ℕ → Bool) where
  -- as a chain of iterators counts them
  pub leading_while : (s : List ℕ) → length (take_while test s) ≡ leading test s
  unfolding leading
  leading_while [] = refl
  leading_while (c ∷ s) =
      test-cases (λ (b : Bool). length (take (cond b (1 + prefix_len test s) 0) (c ∷ s)) ≡ choose b (suc (leading test s)) 0) (test c)
      (λ e. rw one-add (ap suc (leading_while s))) (λ e. refl)

  pub leading-within : (s : List ℕ) → leading test s ≤ length s
  leading-within s = omega (arith, leading_while s, length-take (prefix_len test s) s)

  leading-some : (s : List ℕ) → 0 < length s → test (get_or s 0 0) ≡ true → 0 < leading test s
  unfolding leading
  leading-some [] h t = absurd (omega arith)
  leading-some (c ∷ s) h t = rw t (omega arith)

  stops : (s : List ℕ) → 0 < length (drop (leading test s) s) → test (get_or (drop (leading test s) s) 0 0) ≡ false
  unfolding leading
  stops [] h = absurd (omega arith)
  stops (c ∷ s) h =
      test-cases
      (λ (b : Bool). 0 < length (drop (choose b (suc (leading test s)) 0) (c ∷ s)) → test (get_or (drop (choose b (suc (leading test s)) 0) (c ∷ s)) 0 0) ≡ false)
      (test c) (λ e g. stops s g) (λ e g. e) h

-- ---- a field is taken off
shorter : (s : List ℕ) → length (past_spaces s) ≢ 0 → length (past_field (past_spaces s)) < length s
shorter s n =
    let some : 0 < length (past_spaces s) = omega arith in
    let begun : 0 < leading in_field (past_spaces s) = leading-some in_field (past_spaces s) some (rw (stops is_space s some)) in
    omega (arith, length-drop (leading is_space s) s, length-drop (leading in_field (past_spaces s)) (past_spaces s))

up_none : (most : ℕ) (s : List ℕ) → length (past_spaces s) ≡ 0 → fields_up_to most s ≡ []
unfolding fields_up_to
up_none zero s e = refl
up_none (suc most) s e = rw (eq-eqb _ _ e)

up-some : (most : ℕ) (s : List ℕ) → length (past_spaces s) ≢ 0 →
    fields_up_to (suc most) s ≡ first_field (past_spaces s) ∷ fields_up_to most (past_field (past_spaces s))
unfolding fields_up_to
up-some most s n = rw (ne_eqb _ _ n)

-- a line of n bytes has at most n fields
enough : (m k : ℕ) (s : List ℕ) → length s ≤ m → length s ≤ k → fields_up_to m s ≡ fields_up_to k s
enough zero k s hm hk =
    let none : length (past_spaces s) ≡ 0 = omega (arith, length-drop (leading is_space s) s) in up_none zero s none ∙ sym (up_none k s none)
enough (suc m) zero s hm hk =
    let none : length (past_spaces s) ≡ 0 = omega (arith, length-drop (leading is_space s) s) in up_none (suc m) s none ∙ sym (up_none zero s none)
enough (suc m) (suc k) s hm hk =
    by_cases (ℕ_discrete (length (past_spaces s)) 0)
    (λ (e : length (past_spaces s) ≡ 0). up_none (suc m) s e ∙ sym (up_none (suc k) s e))
    (λ (n : length (past_spaces s) ≢ 0).
    let less = shorter s n in
    up-some m s n
    ∙ ap (λ (fs : List (List ℕ)). first_field (past_spaces s) ∷ fs) (enough m k (past_field (past_spaces s)) (omega arith) (omega arith))
    ∙ sym (up-some k s n))

pub fields-none : (s : List ℕ) → length (past_spaces s) ≡ 0 → fields s ≡ []
unfolding fields
fields-none s e = up_none (length s) s e

pub fields-some : (s : List ℕ) → length (past_spaces s) ≢ 0 → fields s ≡ first_field (past_spaces s) ∷ fields (past_field (past_spaces s))
unfolding fields
fields-some s n = let less = shorter s n in
    enough (length s) (suc (length s)) s (omega arith) (omega arith) ∙ up-some (length s) s n
    ∙ ap (λ (fs : List (List ℕ)). first_field (past_spaces s) ∷ fs) (enough (length s) _ (past_field (past_spaces s)) (omega arith) (omega arith))

-- ---- what a line has behind its first spaces
pub spaces-passed : (line : List ℕ) (n : ℕ) → n ≡ length (take_while is_space line) → take (length line - n) (drop n line) ≡ past_spaces line
spaces-passed line n e =
    let short : length (drop n line) ≤ length line - n = omega (arith, length-drop n line) in
    take_all (length line - n) (drop n line) short ∙ ap (λ (k : ℕ). drop k line) (e ∙ leading_while is_space line)
