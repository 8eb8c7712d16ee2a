-- A node in hand, and what an arrival at it promises: document 01, "Wiring and queues".
use Rattle.std.specs.Prelude.{ℕ, suc, ◌+◌, ◌-◌, ◌≡◌, ◌≢◌, List, ◌∷◌, ◌++◌, map, eqb, length, Option, Some, None}
use Rattle.lists.specs.Table.{down_from}
use Rattle.lists.specs.Search.{Found, absent, found, last_of}
use Rattle.lists.specs.Count.{count, Distinct}
use Rattle.lists.specs.Inner.Pair.{Pair}
use Rattle.words.specs.Inner.Digits.{byte_in}
use Rattle.queue.specs.Inner.Queue.{tags_of, pairs_of, HeldTags, HeldPairs}
use Rattle.queue.specs.declared.Tags.{Tags}
use Rattle.view.specs.Inner.View.{View, carrying}
use Rattle.store.specs.Inner.Layout.{size}
use Rattle.store.specs.Inner.Memory.{view}
use Rattle.machine.specs.Arrival as machine
use Rattle.shown.specs.Inner.Network.{Network, setup}
use Rattle.shown.specs.Inner.Shown.{message_of}
use Rattle.shown.specs.Inner.Landing.{Came, came_merged, came_appended, came_refused, node_of, arrival_of}
use Rattle.node.specs.declared.Node.{Node}
use Rattle.node.specs.declared.Arrived.{Arrived}
use Rattle.node.specs.declared.Outcome.{Outcome}
use Rattle.node.specs.declared.Outcome.TheVariants.{Merged, Appended, Refused}

pub record HeldNode (n : Node) : Type 0 where
  pub queue : HeldTags n.queue
  pub waiting : HeldPairs n.waiting

-- the node that is in hand, as the machine's
abbrev pub node_in : (x : Network) → View → Node → machine.Node (setup x)
node_in x v n = node_of x v (tags_of n.queue) (pairs_of n.waiting)

abbrev pub came_of : Outcome → Came
came_of Merged = came_merged
came_of Appended = came_appended
came_of Refused = came_refused

-- the arriving request, those in the queue and the seconds of the wait buffer are as many requests
abbrev pub ApartAt : ℕ → List ℕ → List Pair → Type 0
ApartAt t tags pairs = Distinct (λ (u : ℕ). u) (t ∷ (tags ++ map (λ (r : Pair). r.second) pairs))

-- ---- the youngest tag with an address
unfoldable pub youngest_tag : (ℕ → ℕ) → ℕ → List ℕ → Found ℕ
youngest_tag address a tags = last_of (λ u. eqb (address u) a) tags

-- the tag with i younger ones, with those before it and those behind it
abbrev pub found_in : Tags → Option ℕ → Found ℕ
found_in l None = absent
found_in l (Some i) = found (down_from (l.len - suc i) (λ j. byte_in l.items (suc i + j))) (byte_in l.items i) (down_from i (byte_in l.items))

-- ---- the arrival
-- "Otherwise append if the queue has room. Otherwise the step changes nothing."
pub record AppendedTo (n : Node) (t q : ℕ) (r : Arrived) : Type 0 where
  pub held : HeldNode r.node
  pub appends : (x : Network) (v : View) → x.Q ≡ q →
      machine.append (setup x) (node_in x v n) (message_of x v t) ≡ arrival_of x (came_of r.outcome) (node_in x v r.node)
  pub unmerged : r.outcome ≢ Merged
  pub waiting_stays : r.node.waiting ≡ n.waiting
  pub longer : r.outcome ≡ Appended → r.node.queue.len ≡ suc n.queue.len
  pub refusal : r.outcome ≡ Refused → r.node ≡ n

-- "A message arriving at a request queue": v is the view before it, m' the machine after it
pub record ArrivedAt (n : Node) (v : View) (t q w : ℕ) (m' : List ℕ) (r : Arrived) : Type 0 where
  pub sized : length m' ≡ size
  pub held : HeldNode r.node
  pub arrives : (x : Network) → x.Q ≡ q → x.W ≡ w →
      machine.arrive (setup x) (node_in x v n) (message_of x v t) ≡ arrival_of x (came_of r.outcome) (node_in x (view m') r.node)
  -- nothing of the machine changes but what tags carry; by a merge alone, and then of the arriving message and of one in the queue
  pub changes : view m' ≡ carrying v (view m').carried
  pub unmerged : r.outcome ≢ Merged → view m' ≡ v
  pub others : (u : ℕ) → u ≢ t → count (λ (w : ℕ). w) u (tags_of n.queue) ≡ 0 → (view m').carried u ≡ v.carried u
  -- an append has one message more in the queue, a merge one record more in the wait buffer
  pub longer : r.outcome ≡ Appended → r.node.queue.len ≡ suc n.queue.len
  pub recorded : r.outcome ≡ Merged → r.node.waiting.len ≡ suc n.waiting.len
  -- a merge leaves the queue's tags, an append the wait buffer, a refusal both
  pub queue-stays : r.outcome ≡ Merged → r.node.queue ≡ n.queue
  pub waiting_stays : r.outcome ≡ Appended → r.node.waiting ≡ n.waiting
  pub refusal : r.outcome ≡ Refused → r.node ≡ n
