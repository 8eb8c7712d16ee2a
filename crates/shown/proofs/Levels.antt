-- The events of a row, and of rows, have levels that fit.
use Prim.Native.Nat.{ℕ, zero, suc, ◌≤◌, ◌<◌}
use mathlib.Core.Path.{◌≡◌}
use mathlib.Core.Bool.{true}
use mathlib.Core.List.{List}
use native.Mathlib.Omega.{arith}
use Rattle.lists.specs.Search.{All, nil}
use Rattle.lists.proofs.Every.{all_append, all_more}
use Rattle.event.specs.Event.{Event, level_fits}
use Rattle.machine.specs.Run.{row, rows_up, rows_down}

-- every event names a step
abbrev pub AllFit : ℕ → List Event → Type 0
AllFit k es = All (λ (e : Event). level_fits k e.what e.level ≡ true) es

module _ (k what : ℕ) where
  -- what fits at each level from 1 to n
  abbrev FitsUpTo : ℕ → Type 0
  FitsUpTo n = (level : ℕ) → 0 < level → level ≤ n → level_fits k what level ≡ true

  pub row-named : (level n : ℕ) → level_fits k what level ≡ true → AllFit k (row what level n)
  unfolding row
  row-named level zero h = nil
  row-named level (suc n) h = all_more (row-named level n h) h

  pub up_named : (n N : ℕ) → FitsUpTo n → AllFit k (rows_up what n N)
  unfolding rows_up
  up_named zero N h = nil
  up_named (suc n) N h = all_append (up_named n N (λ level l g. h level l (omega arith))) (row-named (suc n) N (h (suc n) (omega arith) (omega arith)))

  pub down-named : (n N : ℕ) → FitsUpTo n → AllFit k (rows_down what n N)
  unfolding rows_down
  down-named zero N h = nil
  down-named (suc n) N h = all_append (row-named (suc n) N (h (suc n) (omega arith) (omega arith))) (down-named n N (λ level l g. h level l (omega arith)))
