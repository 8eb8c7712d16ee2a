-- A message arriving at a request queue of the machine in code.
use Rattle.std.specs.Prelude.{ℕ, suc, ◌≡◌, ◌≢◌, List, map}
use Rattle.lists.specs.Count.{count}
use Rattle.lists.specs.Table.{update2}
use Rattle.lists.specs.Inner.Pair.{Pair}
use Rattle.operation.specs.declared.Words.{Words}
use Rattle.view.specs.Inner.View.{View, filled}
use Rattle.machine.specs.Arrival.{Node, Arrival, merged, appended, refused, arrive}
use Rattle.shown.specs.Inner.Network.{Network, setup}
use Rattle.shown.specs.Inner.Shown.{message_of, record_of}

-- what came of it
pub data Came : Type 0 where
  came_merged : Came
  came_appended : Came
  came_refused : Came

-- tags and pairs of tags as the machine's node
abbrev pub node_of : (x : Network) → View → List ℕ → List Pair → Node (setup x)
node_of x v tags pairs = record { queue = map (message_of x v) tags; waiting = map (record_of x v) pairs }

abbrev pub arrival_of : (x : Network) → Came → Node (setup x) → Arrival (setup x)
arrival_of x came_merged n = merged n
arrival_of x came_appended n = appended n
arrival_of x came_refused n = refused

-- "merges" counts every arrival that merged
abbrev pub merges_after : Came → ℕ → ℕ
merges_after came_merged n = suc n
merges_after came_appended n = n
merges_after came_refused n = n

-- the view with another node at a level and position, with what the tags carry after the arrival
abbrev pub with_node : View → ℕ → ℕ → List ℕ → List Pair → (ℕ → Words) → ℕ → View
with_node v s p tags pairs carried merges = filled v (update2 v.requests s p tags) (update2 v.waits s p pairs) carried merges

-- The message t arrives at level s, position p: that node changes and nothing else, but that a merge changes what t and one of the
-- queue carry, and counts.
pub record Landed (v : View) (t s p : ℕ) (v' : View) (came : Came) : Type 0 where
  pub arrives : (x : Network) → x.Q ≡ v.fixed.q → x.W ≡ v.fixed.w →
      arrive (setup x) (node_of x v (v.requests s p) (v.waits s p)) (message_of x v t) ≡ arrival_of x came (node_of x v' (v'.requests s p) (v'.waits s p))
  pub changes : v' ≡ with_node v s p (v'.requests s p) (v'.waits s p) v'.carried (merges_after came v.merges)
  pub others : (u : ℕ) → u ≢ t → count (λ (w : ℕ). w) u (v.requests s p) ≡ 0 → v'.carried u ≡ v.carried u
  pub refusal : came ≡ came_refused → v' ≡ v
