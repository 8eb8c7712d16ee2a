-- The network of a trace: document 01's setup with the trace's shape and requests, and what the machine in code keeps of it.
use Rattle.std.specs.Prelude.{ℕ, zero, suc, ◌-◌, ◌≤◌, ◌<◌, ◌^◌, ◌≡◌, List, [], ◌∷◌, eqb, ltb}
use Rattle.lists.specs.Choice.{choose}
use Rattle.lists.specs.Search.{only}
use Rattle.operation.specs.declared.Operation.{Operation}
use Rattle.wiring.specs.Inner.Path.{position_on}
use Rattle.view.specs.Inner.View.{Fixed}
use Rattle.machine.specs.Setup.{Setup, place}
use Rattle.machine.specs.Omega.{omega_network}

-- a shape, the number of requests, and of each tag its engine, its address and the operation that it asks for
pub record Network : Type 0 where
  pub k : ℕ
  pub Q : ℕ
  pub W : ℕ
  pub R : ℕ
  pub engine_of : ℕ → ℕ
  pub address_of : ℕ → ℕ
  pub asked_of : ℕ → Operation

abbrev pub setup : Network → Setup
setup x = omega_network x.k x.Q x.W x.R x.engine_of x.address_of x.asked_of

-- "k 1 to 4; queue room Q 1 to 4; wait room W 0 to 8"; "Requests R 0 to 256"; "engine not below N" is refused; "addresses 0 to 255"
pub record Ranges (x : Network) : Type 0 where
  pub k-least : 0 < x.k
  pub k-most : x.k ≤ 4
  pub Q-least : 0 < x.Q
  pub Q-most : x.Q ≤ 4
  pub W-most : x.W ≤ 8
  pub R-most : x.R ≤ 256
  pub engines : (t : ℕ) → x.engine_of t < 2 ^ x.k
  pub addresses : (t : ℕ) → x.address_of t < 256

-- ---- an engine's requests
-- n tags, from t on
unfoldable pub tags_from : ℕ → ℕ → List ℕ
tags_from zero t = []
tags_from (suc n) t = t ∷ tags_from n (suc t)

-- the requests of engine e from tag t on, in trace order
abbrev pub of_engine : Network → ℕ → ℕ → List ℕ
of_engine x e t = only (λ u. eqb (x.engine_of u) e) (tags_from (x.R - t) t)

-- the first of n tags from t on that is engine e's, or the tag behind them
unfoldable pub first_from : (ℕ → ℕ) → ℕ → ℕ → ℕ → ℕ
first_from engine_of e zero t = t
first_from engine_of e (suc n) t = choose (eqb (engine_of t) e) t (first_from engine_of e n (suc t))

-- engine e's next request from tag t on, or the number of requests
abbrev pub next_of : Network → ℕ → ℕ → ℕ
next_of x e t = first_from x.engine_of e (x.R - t) t

-- what is kept of the network in the machine in code
pub record Fits (x : Network) (f : Fixed) : Type 0 where
  pub ranges : Ranges x
  pub k-is : f.k ≡ x.k
  pub q-is : f.q ≡ x.Q
  pub w-is : f.w ≡ x.W
  pub count-is : f.count ≡ x.R
  pub every-is : (t : ℕ) → f.every t ≡ ltb t x.R
  pub address_is : (t : ℕ) → t < x.R → f.address t ≡ x.address_of t
  pub path-is : (t : ℕ) → t < x.R → (s : ℕ) → s ≤ x.k → position_on (f.path t) s ≡ place (setup x) t s
  pub after_is : (t : ℕ) → t < x.R → f.after t ≡ next_of x (x.engine_of t) (suc t)
