-- The machine before the first event, as it is made from the requests that a trace has put into it.
use Rattle.std.specs.Prelude.{ℕ, ◌≤◌, ◌<◌, ◌≡◌, false, List, [], ◌∷◌, eqb, ltb, length, get_or}
use Rattle.lists.specs.Choice.{choose}
use Rattle.wiring.specs.Inner.Path.{position_on}
use Rattle.view.specs.Inner.View.{View, with_fixed, with_requests, linked, operation_in}
use Rattle.store.specs.Inner.Layout.{size}
use Rattle.store.specs.Inner.Memory.{view}
use Rattle.machine.specs.Setup.{place}
use Rattle.shown.specs.Inner.Network.{Network, setup, Ranges}
use Rattle.shown.specs.Inner.Reached.{AtStart}

-- nothing is in the network, nothing is answered or counted
pub record Empty (v : View) : Type 0 where
  pub unanswered : (t : ℕ) → v.answered t ≡ false
  pub no-requests : (s p : ℕ) → v.requests s p ≡ []
  pub no-replies : (s p : ℕ) → v.replies s p ≡ []
  pub no-waits : (s p : ℕ) → v.waits s p ≡ []
  pub no-order : v.order ≡ []
  pub no-accesses : v.accesses ≡ 0
  pub no-merges : v.merges ≡ 0
  pub no-rounds : v.rounds ≡ 0

-- of each request of a network its address, its path and its operation
pub record HasRequests (x : Network) (v : View) : Type 0 where
  pub ranges : Ranges x
  pub address_is : (t : ℕ) → t < x.R → v.fixed.address t ≡ x.address_of t
  pub path-is : (t : ℕ) → t < x.R → (s : ℕ) → s ≤ x.k → position_on (v.fixed.path t) s ≡ place (setup x) t s
  pub asked : (t : ℕ) → t < x.R → operation_in (v.carried t) ≡ x.asked_of t

-- the requests of some network are in an empty machine; these are its shape and the number of its requests
pub record RequestsLoaded (m : List ℕ) (k q w count : ℕ) : Type 0 where
  pub sized : length m ≡ size
  pub empty : Empty (view m)
  pub network : Network
  pub requests : HasRequests network (view m)
  pub k-is : k ≡ network.k
  pub q-is : q ≡ network.Q
  pub w-is : w ≡ network.W
  pub count-is : count ≡ network.R

-- the machine is at the start of every network whose requests were in it
pub record Started (m : List ℕ) (k q w count : ℕ) (m' : List ℕ) : Type 0 where
  pub sized : length m' ≡ size
  pub at-start : (x : Network) → HasRequests x (view m) → k ≡ x.k → q ≡ x.Q → w ≡ x.W → count ≡ x.R → AtStart x (view m')
  pub no-rounds : (view m').rounds ≡ 0

-- ---- one request
-- an engine's first request so far, or the number of requests
abbrev pub first_in : View → ℕ → ℕ
first_in v e = choose (eqb (length (v.requests 0 e)) 0) v.fixed.count (get_or (v.requests 0 e) 0 0)

-- the view with the request t of engine e linked before the engine's others
abbrev pub with_linked : View → ℕ → ℕ → View
with_linked v t e = with_requests (with_fixed v (linked v.fixed t (first_in v e))) 0 e (choose (ltb t v.fixed.count) (t ∷ []) [])

-- the request t stands before its engine's others
pub record LinkedTo (v : View) (t : ℕ) (m' : List ℕ) : Type 0 where
  pub sized : length m' ≡ size
  pub links : view m' ≡ with_linked v t (position_on (v.fixed.path t) 0)
