-- What becomes of a reply one level down, by the way it is taken: level s + 1 is where it stands.
use Rattle.std.specs.Prelude.{ℕ, suc, ◌+◌, ◌≤◌, ◌≡◌, List, [], ◌∷◌, ◌++◌, ltb, length, get_or, take, drop}
use Rattle.lists.specs.Choice.{choose}
use Rattle.lists.specs.Inner.Pair.{Pair}
use Rattle.operation.specs.Operation.{applied}
use Rattle.wiring.specs.Inner.Path.{position_on}
use Rattle.queue.specs.Inner.Queue.{no_pair}
use Rattle.view.specs.Inner.View.{View, with_carried, with_replies, with_waits, with_order, operation_in, valued}
use Rattle.store.specs.Inner.Layout.{size}
use Rattle.store.specs.Inner.Memory.{view}
use Rattle.shown.specs.Inner.Shown.{tags_for}

-- "wait room W 0 to 8"
pub record WaitsFit (v : View) : Type 0 where
  pub few : (s p : ℕ) → length (v.waits s p) ≤ 8

-- the requests that stand at a module
abbrev pub at_module : View → ℕ → List ℕ
at_module v position = v.requests v.fixed.k position

-- the requests of t up to a level fit the order list
abbrev pub ExpansionFits : View → ℕ → ℕ → Type 0
ExpansionFits v level t = length v.order + length (tags_for v.fixed.path v.waits level t) ≤ 256

-- and stand at its end
abbrev pub with_expansion : View → ℕ → ℕ → View
with_expansion v level t = with_order v (tags_for v.fixed.path v.waits level t)

-- the view after t itself moved one level down
abbrev pub lowered_from : View → ℕ → ℕ → ℕ → View
lowered_from v s p t =
    with_replies (with_replies v (suc s) p (drop 1 (v.replies (suc s) p)))
    s (position_on (v.fixed.path t) s) (v.replies s (position_on (v.fixed.path t) s) ++ (t ∷ []))

-- "t itself moves one level down. If the target queue is full nothing changes."
pub record Lowered (v : View) (s p t : ℕ) (m' : List ℕ) : Type 0 where
  pub sized : length m' ≡ size
  pub lowered : view m' ≡ choose (ltb (length (v.replies s (position_on (v.fixed.path t) s))) v.fixed.q) (lowered_from v s p t) v

-- the view after the second tag u of a record is answered from t, with the records that are left
abbrev pub answered_from : View → ℕ → ℕ → ℕ → ℕ → List Pair → View
answered_from v s p t u left =
    with_waits
    (with_replies (with_carried v u (valued (v.carried u) (applied (operation_in (v.carried u)) (v.carried t).first)))
    s (position_on (v.fixed.path u) s) (v.replies s (position_on (v.fixed.path u) s) ++ (u ∷ [])))
    (suc s) p left

-- "its second tag is answered ..; the record goes, t stays": the record at place i
pub record SplitOff (v : View) (s p t : ℕ) (pairs : List Pair) (i : ℕ) (m' : List ℕ) : Type 0 where
  pub sized : length m' ≡ size
  pub split : view m' ≡
      choose (ltb (length (v.replies s (position_on (v.fixed.path (get_or pairs i no_pair).second) s))) v.fixed.q)
      (answered_from v s p t (get_or pairs i no_pair).second (take i pairs ++ drop (suc i) pairs))
      v
