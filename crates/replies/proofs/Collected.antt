-- The oldest reply taken away and its request marked: the machine's collect.
use Prim.Native.Nat.{ℕ, ◌<◌}
use mathlib.Core.Path.{◌≡◌, refl, ap, ◌∙◌}
use mathlib.Core.Bool.{false}
use mathlib.Core.List.{List}
use native.Mathlib.Omega.{arith}
use lib.ListN.{length, get_or, drop}
use Rattle.lists.proofs.Lists.{first-is}
use Rattle.view.specs.Inner.View.{View, with_replies, with_answer}
use Rattle.store.specs.Inner.Memory.{view, Becomes}
use Rattle.machine.specs.Order.{replying}
use Rattle.shown.specs.Inner.Reached.{single}
use Rattle.shown.proofs.Apart.{other-kind, unanswered, oldest-replying}
use Rattle.shown.proofs.Reaching.{stands-apart}
use Rattle.shown.proofs.Collecting.{collect-shows}
use Rattle.shown.proofs.Events.{collect-moves}
use Rattle.moves.specs.Inner.Moves.{Ready, Moves}

-- a request whose reply stands in a queue is not answered
pub collected-open : {m m₁ : List ℕ} → Ready m → (e t : ℕ) → 0 < length ((view m).replies 0 e) → t ≡ get_or ((view m).replies 0 e) 0 0 →
    Becomes m₁ (with_replies (view m) 0 e (drop 1 ((view m).replies 0 e))) → (view m₁).answered t ≡ false
collected-open {m} R e t some oldest popped =
    let there = oldest-replying R.network (view m) 0 e (first-is ((view m).replies 0 e) t some oldest) in
    rw popped.holds (unanswered R.network (view m) (stands-apart R.stands) t (replying 0 e) there (other-kind _ _ (λ z. omega arith)))

pub collected : {m m₁ m₂ : List ℕ} (e t : ℕ) → 0 < length ((view m).replies 0 e) → t ≡ get_or ((view m).replies 0 e) 0 0 →
    Becomes m₁ (with_replies (view m) 0 e (drop 1 ((view m).replies 0 e))) → Becomes m₂ (with_answer (view m₁) t) → Moves (single 4 0 e) m m₂
collected {m} {m₁} {m₂} e t some oldest popped marked =
    let rest = drop 1 ((view m).replies 0 e) in
    let is : view m₂ ≡ with_answer (with_replies (view m) 0 e rest) t = marked.holds ∙ ap (λ (v : View). with_answer v t) popped.holds in
    let first = first-is ((view m).replies 0 e) t some oldest in
    record {
      sized = marked.sized;
      moved = λ x words _. rw is (collect-moves 4 0 e refl refl refl (collect-shows x (view m) words e t rest first));
    }
