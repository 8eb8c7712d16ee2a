-- The five kinds of step, and the levels that each kind has: document 01, "Steps".
use Prim.Native.Nat.{ℕ, ◌≤◌, ◌<◌}
use mathlib.Core.Path.{◌≡◌, refl, sym, ◌∙◌}
use mathlib.Core.Logic.{◌≢◌}
use mathlib.Core.Bool.{Bool, true, false}
use native.Mathlib.Decide.{ℕ_discrete}
use native.Mathlib.Omega.{arith}
use lib.Dec.{ltb, leb}
use borrow.Author.Tests.{eq-eqb, eqb-true, ne_eqb, le-leb, leb-true, lt-ltb, ltb-true}
use Rattle.std.specs.Prelude.{Result, MatchResult, Ok, Err}
use Rattle.lists.proofs.Tests.{by_cases, test-clash, both_true}
use Rattle.event.specs.Event.{level_fits}
use Rattle.event.specs.declared.NoStep.{NoStep}
use Rattle.event.specs.declared.Step.{Step}
use Rattle.event.specs.Inner.Steps.{number_of_step, StepTold}

-- by what an event is: one of the five kinds, or more
pub by-what : {P : Type 0} (what : ℕ) → (what ≡ 0 → P) → (what ≡ 1 → P) → (what ≡ 2 → P) → (what ≡ 3 → P) → (what ≡ 4 → P) → (4 < what → P) → P
by-what what issue forward serve return collect none =
    by_cases (ℕ_discrete what 0) issue (λ (n₀ : what ≢ 0).
    by_cases (ℕ_discrete what 1) forward (λ (n₁ : what ≢ 1).
    by_cases (ℕ_discrete what 2) serve (λ (n₂ : what ≢ 2).
    by_cases (ℕ_discrete what 3) return (λ (n₃ : what ≢ 3).
    by_cases (ℕ_discrete what 4) collect (λ (n₄ : what ≢ 4). none (omega arith))))))

-- ---- the levels of each kind
pub issues-fit : (k : ℕ) → level_fits k 0 0 ≡ true
unfolding level_fits
issues-fit k = refl

pub forwards-fit : (k level : ℕ) → 0 < level → level < k → level_fits k 1 level ≡ true
unfolding level_fits
forwards-fit k level h g = let f : 1 ≤ level = omega arith in rw (le-leb 1 level f, lt-ltb level k g)

pub modules-fit : (k : ℕ) → level_fits k 2 k ≡ true
unfolding level_fits
modules-fit k = eq-eqb k k refl

pub returns-fit : (k level : ℕ) → 0 < level → level ≤ k → level_fits k 3 level ≡ true
unfolding level_fits
returns-fit k level h g = let f : 1 ≤ level = omega arith in rw (le-leb 1 level f, le-leb level k g)

pub collects-fit : (k : ℕ) → level_fits k 4 0 ≡ true
unfolding level_fits
collects-fit k = refl

-- ---- and back
module _ (k what level : ℕ) where
  pub issue-level : what ≡ 0 → level_fits k what level ≡ true → level ≡ 0
  unfolding level_fits
  issue-level e f = eqb-true level 0 (rw e at f)

  pub forward-level : what ≡ 1 → level_fits k what level ≡ true → (0 < level) × (level < k)
  unfolding level_fits
  forward-level e f =
      let g = both_true (leb 1 level) (ltb level k) (rw e at f) in
      (omega (arith, leb-true 1 level g.0), ltb-true level k g.1)

  pub module-level : what ≡ 2 → level_fits k what level ≡ true → level ≡ k
  unfolding level_fits
  module-level e f = eqb-true level k (rw e at f)

  pub return-level : what ≡ 3 → level_fits k what level ≡ true → (0 < level) × (level ≤ k)
  unfolding level_fits
  return-level e f =
      let g = both_true (leb 1 level) (leb level k) (rw e at f) in
      (omega (arith, leb-true 1 level g.0), leb-true level k g.1)

  pub collect-level : what ≡ 4 → level_fits k what level ≡ true → level ≡ 0
  unfolding level_fits
  collect-level e f = eqb-true level 0 (rw e at f)

  -- what is no kind has no level
  pub no_step : 4 < what → level_fits k what level ≡ false
  unfolding level_fits
  no_step h =
      simp (
        ne_eqb what 0 (λ e. omega arith),
        ne_eqb what 1 (λ e. omega arith),
        ne_eqb what 2 (λ e. omega arith),
        ne_eqb what 3 (λ e. omega arith),
        ne_eqb what 4 (λ e. omega arith),
      )

  -- so what has a level is one of the five
  pub step-named : {P : Type 0} → level_fits k what level ≡ true → (what ≡ 0 → P) → (what ≡ 1 → P) → (what ≡ 2 → P) → (what ≡ 3 → P) → (what ≡ 4 → P) → P
  step-named f issue forward serve return collect = by-what what issue forward serve return collect (λ h. test-clash f (no_step h))

  pub what-most : level_fits k what level ≡ true → what ≤ 4
  what-most f = step-named f (λ e. omega arith) (λ e. omega arith) (λ e. omega arith) (λ e. omega arith) (λ e. omega arith)

  -- no level is above the modules
  pub level-most : level_fits k what level ≡ true → level ≤ k
  level-most f = step-named f
      (λ e. omega (arith, issue-level e f)) (λ e. omega (arith, (forward-level e f).1)) (λ e. omega (arith, module-level e f))
      (λ e. (return-level e f).1) (λ e. omega (arith, collect-level e f))

  -- ---- the kind that a number tells
  -- where it tells none, it has no level
  pub told-fits : {b : Bool} {P : Step → Type 0} (r : Result Step NoStep) → StepTold what r →
      ((step : Step) → P step → b ≡ level_fits k (number_of_step step) level) → MatchResult r P (λ _. b ≡ false) → b ≡ level_fits k what level
  told-fits (Ok step) told by fits = rw told at (by step fits)
  told-fits (Err none) told by fits = fits ∙ sym (no_step told)
