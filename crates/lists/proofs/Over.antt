-- Laws of `over`: what stands in front of a lent slice, and what beyond it.
use Prim.Native.Nat.{ℕ, ◌<◌}
use mathlib.Core.Path.{◌≡◌, ◌∙◌, ap}
use mathlib.Core.List.{List}
use native.Mathlib.Omega.{arith}
use lib.ListN.{length, get_or, drop, get_or-append}
use lib.Seq.{drop_at}
use Rattle.lists.specs.Table.{list_below}
use Rattle.lists.proofs.Below.{length-below, get_or-below}
use Rattle.lists.specs.Over.{over}

pub over-at : (new old : List ℕ) (i : ℕ) → i < length new → get_or (over new old) i 0 ≡ get_or new i 0
over-at new old i l = get_or-append new (drop (length new) old) 0 i l

-- of the values of a function below n
module _ (f : ℕ → ℕ) (n : ℕ) (old : List ℕ) where
  pub over_below : (i : ℕ) → i < n → get_or (over (list_below n f) old) i 0 ≡ f i
  over_below i l = over-at (list_below n f) old i (omega (arith, length-below n f)) ∙ get_or-below 0 n f i l

  pub over-beyond : drop n (over (list_below n f) old) ≡ drop n old
  over-beyond = drop_at (list_below n f) (drop (length (list_below n f)) old) n (length-below n f) ∙ ap (λ (m : ℕ). drop m old) (length-below n f)
