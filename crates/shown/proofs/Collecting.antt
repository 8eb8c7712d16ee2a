-- The collect on the view is the machine's.
use Prim.Native.Nat.{ℕ}
use mathlib.Core.Path.{◌≡◌, refl, sym, fun_ext}
use mathlib.Core.Logic.{◌≢◌}
use mathlib.Core.Bool.{true}
use mathlib.Core.List.{List, ◌∷◌}
use mathlib.Core.Option.{some}
use native.Mathlib.Decide.{ℕ_discrete}
use Rattle.lists.specs.Table.{update}
use Rattle.lists.proofs.Tests.{by_cases}
use Rattle.lists.proofs.Tables.{update_same, update_other}
use Rattle.view.specs.Inner.View.{View, with_replies, with_answer}
use Rattle.machine.specs.Steps.{collect_oldest, collect_step}
use Rattle.shown.specs.Inner.Network.{Network, setup}
use Rattle.shown.specs.Inner.Shown.{answer_of, shown}
use Rattle.shown.proofs.Carried.{state-eq, replies-updated}

module _ (x : Network) (v : View) (words : ℕ → ℕ) where
  -- the value that the tag carries is its answer
  answer-set : (t : ℕ) → answer_of x (with_answer v t) ≡ update (answer_of x v) t (some (v.carried t).first)
  answer-set t = fun_ext (λ u. by_cases (ℕ_discrete u t)
      (λ (e : u ≡ t). rw (e, update_same v.answered t true) (sym (update_same (answer_of x v) t (some (v.carried t).first))))
      (λ (n : u ≢ t). rw (update_other v.answered t true n) (sym (update_other (answer_of x v) t (some (v.carried t).first) n))))

  pub collect-shows : (e t : ℕ) (rest : List ℕ) → v.replies 0 e ≡ t ∷ rest →
      shown x (with_answer (with_replies v 0 e rest) t) words ≡ collect_step (setup x) e (shown x v words)
  unfolding shown collect_step collect_oldest
  collect-shows e t rest is = rw is (state-eq _ _ refl refl (replies-updated x v v.replies 0 e rest) refl refl (answer-set t) refl refl)
