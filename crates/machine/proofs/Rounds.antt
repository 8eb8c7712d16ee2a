-- The events of a drain round: they all name steps, and what holds of all of them holds of the step of each kind, level and position.
use Prim.Native.Nat.{ℕ, zero, suc, ◌-◌, ◌<◌}
use mathlib.Core.Path.{◌≡◌, refl}
use mathlib.Core.Logic.{◌≢◌}
use mathlib.Core.Bool.{true}
use mathlib.Core.List.{◌++◌, append_assoc}
use native.Mathlib.Decide.{ℕ_discrete}
use native.Mathlib.Omega.{arith}
use borrow.Author.Tests.{eq-eqb, le-leb, lt-ltb}
use Rattle.lists.specs.Search.{All, nil, cons}
use Rattle.lists.proofs.Tests.{by_cases}
use Rattle.lists.proofs.Every.{all_head, all_append, all_left, all_right}
use Rattle.event.specs.Event.{Event, level_fits}
use Rattle.machine.specs.Run.{row, rows_up, rows_down, round}

module _ {P : Event → Type 0} (what : ℕ) where
  -- ---- what holds at each position, at each level
  row-all : (level n : ℕ) → ((p : ℕ) → P (record { what = what; level = level; position = p })) → All P (row what level n)
  unfolding row
  row-all level zero h = nil
  row-all level (suc n) h = all_append (row-all level n h) (cons (h n) nil)

  up-all : (n N : ℕ) → ((s p : ℕ) → s < n → P (record { what = what; level = suc s; position = p })) → All P (rows_up what n N)
  unfolding rows_up
  up-all zero N h = nil
  up-all (suc n) N h = all_append (up-all n N (λ s p l. h s p (omega arith))) (row-all (suc n) N (λ p. h n p (omega arith)))

  down-all : (n N : ℕ) → ((s p : ℕ) → s < n → P (record { what = what; level = suc s; position = p })) → All P (rows_down what n N)
  unfolding rows_down
  down-all zero N h = nil
  down-all (suc n) N h = all_append (row-all (suc n) N (λ p. h n p (omega arith))) (down-all n N (λ s p l. h s p (omega arith)))

  -- ---- and back
  all_row : (level n : ℕ) → All P (row what level n) → (p : ℕ) → p < n → P (record { what = what; level = level; position = p })
  unfolding row
  all_row level zero h p l = absurd (omega arith)
  all_row level (suc n) h p l = by_cases (ℕ_discrete p n)
      (λ (e : p ≡ n). rw e (all_head (all_right (row what level n) h)))
      (λ (m : p ≢ n). all_row level n (all_left (row what level n) _ h) p (omega arith))

  all_up : (n N : ℕ) → All P (rows_up what n N) → (s p : ℕ) → s < n → p < N → P (record { what = what; level = suc s; position = p })
  unfolding rows_up
  all_up zero N h s p l m = absurd (omega arith)
  all_up (suc n) N h s p l m = by_cases (ℕ_discrete s n)
      (λ (e : s ≡ n). rw e (all_row (suc n) N (all_right (rows_up what n N) h) p m))
      (λ (d : s ≢ n). all_up n N (all_left (rows_up what n N) _ h) s p (omega arith) m)

  all-down : (n N : ℕ) → All P (rows_down what n N) → (s p : ℕ) → s < n → p < N → P (record { what = what; level = suc s; position = p })
  unfolding rows_down
  all-down zero N h s p l m = absurd (omega arith)
  all-down (suc n) N h s p l m = by_cases (ℕ_discrete s n)
      (λ (e : s ≡ n). rw e (all_row (suc n) N (all_left (row what (suc n) N) _ h) p m))
      (λ (d : s ≢ n). all-down n N (all_right (row what (suc n) N) h) s p (omega arith) m)

-- ---- a round, in its parts
round-parts : (k N : ℕ) → round k N ≡ row 4 0 N ++ (rows_up 3 k N ++ (row 2 k N ++ (rows_down 1 (k - 1) N ++ row 0 0 N)))
unfolding round
round-parts k N = simp append_assoc

-- the events of a round all fit
pub round-fits : (k N : ℕ) → 0 < k → All (λ (e : Event). level_fits k e.what e.level ≡ true) (round k N)
unfolding level_fits
round-fits k N h = rw (round-parts k N)
    (all_append (row-all 4 0 N (λ _. refl))
    (all_append (up-all 3 k N (λ s _ l. rw (le-leb (suc s) k l, le-leb 1 (suc s) (omega arith))))
    (all_append (row-all 2 k N (λ _. eq-eqb k k refl))
    (all_append (down-all 1 (k - 1) N (λ s _ l. rw (lt-ltb (suc s) k (omega arith), le-leb 1 (suc s) (omega arith))))
    (row-all 0 0 N (λ _. refl))))))

-- what holds of each step of a round
module _ {P : Event → Type 0} (k N : ℕ) (all : All P (round k N)) (p : ℕ) (inside : p < N) where
  parts : All P (row 4 0 N ++ (rows_up 3 k N ++ (row 2 k N ++ (rows_down 1 (k - 1) N ++ row 0 0 N))))
  parts = rw (round-parts k N) at all

  after-returns : All P (row 2 k N ++ (rows_down 1 (k - 1) N ++ row 0 0 N))
  after-returns = all_right (rows_up 3 k N) (all_right (row 4 0 N) parts)

  pub round-collects : P (record { what = 4; level = 0; position = p })
  round-collects = all_row 4 0 N (all_left (row 4 0 N) _ parts) p inside

  pub round-returns : (s : ℕ) → s < k → P (record { what = 3; level = suc s; position = p })
  round-returns s l = all_up 3 k N (all_left (rows_up 3 k N) _ (all_right (row 4 0 N) parts)) s p l inside

  pub round-modules : P (record { what = 2; level = k; position = p })
  round-modules = all_row 2 k N (all_left (row 2 k N) _ after-returns) p inside

  pub round-forwards : (s : ℕ) → suc s < k → P (record { what = 1; level = suc s; position = p })
  round-forwards s l = all-down 1 (k - 1) N (all_left (rows_down 1 (k - 1) N) _ (all_right (row 2 k N) after-returns)) s p (omega arith) inside

  pub round-issues : P (record { what = 0; level = 0; position = p })
  round-issues = all_row 0 0 N (all_right (rows_down 1 (k - 1) N) (all_right (row 2 k N) after-returns)) p inside
