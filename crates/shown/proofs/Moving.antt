-- Moves of the view, one after another: the events of a row, of rows and of a round.
use Prim.Native.Nat.{ℕ, zero, suc, ◌+◌, ◌-◌, ◌<◌}
use mathlib.Core.Path.{◌≡◌, refl, sym, ap, ◌∙◌}
use mathlib.Core.List.{List, [], ◌∷◌, ◌++◌}
use native.Mathlib.Numerals.{add-one}
use native.Mathlib.Omega.{arith}
use Rattle.event.specs.Event.{Event}
use Rattle.view.specs.Inner.View.{View}
use Rattle.machine.specs.Run.{run_events, row, rows_up, rows_down}
use Rattle.machine.proofs.Moments.{events-append}
use Rattle.shown.specs.Inner.Network.{Network, setup}
use Rattle.shown.specs.Inner.Shown.{shown}
use Rattle.shown.specs.Inner.Reached.{Moved}

module _ {x : Network} where
  pub moved_none : {v : View} {words : ℕ → ℕ} → Moved x [] v words v words
  unfolding run_events
  moved_none = record { shows = refl; fixed = refl; rounds = refl }

  module _ {v v₁ v₂ : View} {words words₁ words₂ : ℕ → ℕ} where
    pub moved-append : {es fs : List Event} → Moved x es v words v₁ words₁ → Moved x fs v₁ words₁ v₂ words₂ → Moved x (es ++ fs) v words v₂ words₂
    moved-append {es} {fs} f g = record {
      shows = g.shows ∙ ap (run_events (setup x) fs) f.shows ∙ sym (events-append (setup x) es fs (shown x v words));
      fixed = g.fixed ∙ f.fixed;
      rounds = g.rounds ∙ f.rounds;
    }

  -- ---- rows
  pub row-none : (what level : ℕ) {v : View} {words : ℕ → ℕ} → Moved x (row what level 0) v words v words
  unfolding row
  row-none what level = moved_none

  pub up_none : (what N : ℕ) {v : View} {words : ℕ → ℕ} → Moved x (rows_up what 0 N) v words v words
  unfolding rows_up
  up_none what N = moved_none

  pub down-none : (what N : ℕ) {v : View} {words : ℕ → ℕ} → Moved x (rows_down what 0 N) v words v words
  unfolding rows_down
  down-none what N = moved_none

  module _ {v v₁ v₂ : View} {words words₁ words₂ : ℕ → ℕ} (what : ℕ) where
    -- one position more
    pub row-onward : (level p : ℕ) → Moved x (row what level p) v words v₁ words₁ →
        Moved x (record { what = what; level = level; position = p } ∷ []) v₁ words₁ v₂ words₂
        → Moved x (row what level (p + 1)) v words v₂ words₂
    unfolding row
    row-onward level p f g = rw add-one (moved-append f g)

    -- ---- rows at levels that rise, and that fall: one level more
    pub up-onward : (n N : ℕ) → Moved x (rows_up what n N) v words v₁ words₁ → Moved x (row what (n + 1) N) v₁ words₁ v₂ words₂ →
        Moved x (rows_up what (n + 1) N) v words v₂ words₂
    unfolding rows_up
    up-onward n N f g = rw add-one (moved-append f (rw add-one at g))

    pub down-onward : (n N : ℕ) → 0 < n → Moved x (row what n N) v words v₁ words₁ → Moved x (rows_down what (n - 1) N) v₁ words₁ v₂ words₂ →
        Moved x (rows_down what n N) v words v₂ words₂
    unfolding rows_down
    down-onward zero N h f g = absurd (omega arith)
    down-onward (suc n) N h f g = moved-append f (let z : suc n - 1 ≡ n = omega arith in rw z at g)
