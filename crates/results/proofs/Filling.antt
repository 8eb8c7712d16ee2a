-- A lent slice that is filled from its front: with none, with one more, and with all.
use Prim.Native.Nat.{ℕ, suc, ◌+◌, ◌<◌}
use mathlib.Core.Path.{◌≡◌, refl, sym, ◌∙◌, ap}
use mathlib.Core.List.{List, [], ◌∷◌, ◌++◌, append_assoc}
use native.Mathlib.Numerals.{add-one}
use lib.ListN.{length, get_or, drop, set, length-set}
use lib.Seq.{drop-cons, set_at}
use Rattle.lists.specs.Table.{list_below}
use Rattle.lists.proofs.Below.{length-below, below-is}
use Rattle.lists.specs.Over.{over}

-- the first i places have f's values, and the others what was lent
pub record Filled (f : ℕ → ℕ) (old l : List ℕ) (i : ℕ) : Type 0 where
  pub sized : length l ≡ length old
  pub holds : l ≡ list_below i f ++ drop i old

module _ {f : ℕ → ℕ} {old : List ℕ} where
  pub filled_none : Filled f old old 0
  unfolding list_below
  filled_none = record { sized = refl; holds = refl }

  module _ {l : List ℕ} {i : ℕ} (so_far : Filled f old l i) where
    pub filled_more : i < length old → {v : ℕ} → v ≡ f i → Filled f old (set l i v) (i + 1)
    unfolding list_below
    filled_more room {v} e = record {
      sized = length-set l i v ∙ so_far.sized;
      holds =
          rw (so_far.holds, drop-cons old i 0 room, add-one, e)
          (set_at (list_below i f) (get_or old i 0) (drop (suc i) old) (f i) i (length-below i f)
          ∙ sym (append_assoc (list_below i f) (f i ∷ []) (drop (suc i) old)));
    }

    pub filled-all : {n : ℕ} → i ≡ n → l ≡ over (list_below n f) old
    filled-all {n} e = so_far.holds ∙ rw (e, length-below n f)

-- the elements of a list, all of them
pub filled-list : (new : List ℕ) {old l : List ℕ} {i : ℕ} → Filled (λ j. get_or new j 0) old l i → i ≡ length new → l ≡ over new old
filled-list new {old} so_far e =
    filled-all so_far e ∙ ap (λ (a : List ℕ). over a old) (sym (below-is 0 (length new) (λ j. get_or new j 0) new refl (λ j h. refl)))

-- what `copy_order` begins and ends with
pub ruleset order_ends = (filled_none, filled-list)
