-- The levels of a step as one range, by what it is.
use Prim.Native.Nat.{ℕ, ◌+◌, ◌≤◌, ◌<◌, ◌^◌}
use mathlib.Core.Path.{◌≡◌}
use mathlib.Core.Logic.{◌≢◌}
use mathlib.Core.List.{List, [], ◌∷◌}
use mathlib.Core.Bool.{true}
use native.Mathlib.Omega.{arith}
use native.Mathlib.Decide.{ℕ_discrete, dec_lt}
use native.Mathlib.Numerals.{add-one}
use lib.ListN.{get_or}
use lib.Dec.{eqb, leb, ltb, leb-suc-suc}
use borrow.Author.Tests.{lt-ltb, le-ltb, le-leb, lt-leb, eq-eqb, ne_eqb, ltb-true}
use Rattle.lists.specs.Choice.{both}
use Rattle.lists.proofs.Tests.{by_cases, both_true}
use Rattle.event.specs.Event.{Event, level_fits, names_step}
use Rattle.event.proofs.Steps.{by-what, what-most, level-most}

-- by what a step is: its first level, and the level past its last
abbrev first_levels : ℕ → List ℕ
first_levels k = 0 ∷ 1 ∷ k ∷ 1 ∷ 0 ∷ []

abbrev level_ends : ℕ → List ℕ
level_ends k = 1 ∷ k ∷ (k + 1) ∷ (k + 1) ∷ 1 ∷ []

-- a range of one level
one-level : (m level : ℕ) → eqb level m ≡ both (leb m level) (ltb level (m + 1))
one-level m level =
    by_cases (ℕ_discrete level m)
    (λ (e : level ≡ m). simp (eq-eqb level m e, le-leb m level (omega arith), lt-ltb level (m + 1) (omega arith)))
    (λ (n : level ≢ m).
    by_cases (dec_lt level m)
    (λ (h : level < m). simp (ne_eqb level m n, lt-leb m level h))
    (λ (h : ¬ (level < m)). simp (ne_eqb level m n, le-leb m level (omega arith), le-ltb level (m + 1) (omega arith))))

pub level-range : (k what level : ℕ) → what ≤ 4 →
    level_fits k what level ≡ both (leb (get_or (first_levels k) what 0) level) (ltb level (get_or (level_ends k) what 0))
unfolding level_fits
level-range k what level few = by-what what
    (λ e. rw e (one-level 0 level)) (λ e. rw e) (λ e. rw e (one-level k level))
    (λ e. rw e (rw (add-one k, leb-suc-suc level k))) (λ e. rw e (one-level 0 level))
    (λ more. absurd (omega arith))

-- an event that names a step stands at one of the N positions of one of the levels
pub record StepIn (k : ℕ) (e : Event) : Type 0 where
  pub position-below : e.position < 2 ^ k
  pub what-most : e.what ≤ 4
  pub level-most : e.level ≤ k
  pub level-fits : level_fits k e.what e.level ≡ true

pub step_in : (k : ℕ) (e : Event) → names_step k e ≡ true → StepIn k e
unfolding names_step
step_in k e h =
    let parts = both_true (ltb e.position (2 ^ k)) (level_fits k e.what e.level) h in
    record {
      position-below = ltb-true e.position (2 ^ k) parts.0;
      what-most = what-most k e.what e.level parts.1;
      level-most = level-most k e.what e.level parts.1;
      level-fits = parts.1;
    }
