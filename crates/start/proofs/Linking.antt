-- Requests are linked from the last to the first: what holds once those from t on are, at the end, at one more, and at all of them.
use Prim.Native.Nat.{ℕ, suc, ◌-◌, ◌≤◌, ◌<◌}
use mathlib.Core.Path.{◌≡◌, refl, sym, ap, ◌∙◌}
use mathlib.Core.Logic.{◌≢◌}
use mathlib.Core.Bool.{Bool, false}
use mathlib.Core.List.{List, [], ◌∷◌}
use native.Mathlib.Decide.{ℕ_discrete}
use native.Mathlib.Omega.{arith}
use lib.Dec.{eqb, ltb}
use lib.ListN.{length, get_or}
use borrow.Author.Tests.{eq-eqb, ne_eqb, le-ltb}
use Rattle.lists.specs.Choice.{choose}
use Rattle.lists.proofs.Tests.{by_cases, ltb-cases}
use Rattle.lists.proofs.Tables.{update_same, update_other, update2-same, update2-level, update2-position}
use Rattle.wiring.specs.Wiring.{module_of}
use Rattle.wiring.specs.Inner.Path.{position_on}
use Rattle.wiring.proofs.Laws.{position-engine, module-below}
use Rattle.view.specs.Inner.View.{View, with_fixed, shaped}
use Rattle.store.specs.Inner.Layout.{size}
use Rattle.store.specs.Inner.Memory.{view, Becomes}
use Rattle.shown.specs.Inner.Network.{Network, next_of, first_from}
use Rattle.shown.specs.Inner.Reached.{Quiet, AtStart}
use Rattle.shown.proofs.Engines.{next-within}
use Rattle.start.specs.Inner.Linked.{Empty, HasRequests, RequestsLoaded, Started, LinkedTo, first_in, with_linked}

-- the requests from t on are linked, and each engine has its first of them
pub record Linked (x : Network) (v : View) (t : ℕ) : Type 0 where
  pub loaded : HasRequests x v
  pub k-is : v.fixed.k ≡ x.k
  pub q-is : v.fixed.q ≡ x.Q
  pub w-is : v.fixed.w ≡ x.W
  pub count-is : v.fixed.count ≡ x.R
  pub every-is : (u : ℕ) → v.fixed.every u ≡ ltb u x.R
  pub after_is : (u : ℕ) → t ≤ u → u < x.R → v.fixed.after u ≡ next_of x (x.engine_of u) (suc u)
  pub first : (e : ℕ) → v.requests 0 e ≡ choose (ltb (next_of x e t) x.R) (next_of x e t ∷ []) []
  pub quiet : Quiet v
  pub no-rounds : v.rounds ≡ 0

-- ---- an engine's next request from t on
module _ (x : Network) (e : ℕ) where
  next-end : next_of x e x.R ≡ x.R
  unfolding first_from
  next-end = let z : x.R - x.R ≡ 0 = omega arith in rw z

  module _ (t : ℕ) (below : t < x.R) where
    next_here : x.engine_of t ≡ e → next_of x e t ≡ t
    unfolding first_from
    next_here q = let z : x.R - t ≡ suc (x.R - suc t) = omega arith in rw (z, eq-eqb _ _ q)

    next-later : x.engine_of t ≢ e → next_of x e t ≡ next_of x e (suc t)
    unfolding first_from
    next-later n = let z : x.R - t ≡ suc (x.R - suc t) = omega arith in rw (z, ne_eqb _ _ n)

-- a queue that has the next request alone, or is empty where there is none, gives it back
next-given : (n r : ℕ) (l : List ℕ) → n ≤ r → l ≡ choose (ltb n r) (n ∷ []) [] → choose (eqb (length l) 0) r (get_or l 0 0) ≡ n
next-given n r l within h =
    rw h (ltb-cases (λ b. choose (eqb (length (choose b (n ∷ []) [])) 0) r (get_or (choose b (n ∷ []) []) 0 0) ≡ n) n r (λ _. refl) (λ g. omega arith))

-- ---- none are linked
linked-none : (x : Network) (v : View) → Empty v → HasRequests x v → Linked x (with_fixed v (shaped v.fixed x.k x.Q x.W x.R)) x.R
linked-none x v empty loaded = record {
  loaded = record { ranges = loaded.ranges; address_is = loaded.address_is; path-is = loaded.path-is; asked = loaded.asked };
  k-is = refl;
  q-is = refl;
  w-is = refl;
  count-is = refl;
  every-is = λ u. refl;
  after_is = λ u above below. absurd (omega arith);
  first = λ e. let z : ltb (next_of x e x.R) x.R ≡ false = rw (next-end x e) (le-ltb x.R x.R (omega arith)) in empty.no-requests 0 e ∙ rw z refl;
  quiet = record {
    unanswered = empty.unanswered;
    no-requests = λ s p. empty.no-requests (suc s) p;
    no-replies = empty.no-replies;
    no-waits = empty.no-waits;
    no-order = empty.no-order;
    no-accesses = empty.no-accesses;
    no-merges = empty.no-merges;
  };
  no-rounds = empty.no-rounds;
}

-- ---- one more
module _ (x : Network) (v : View) (t : ℕ) (below : t < x.R) (so_far : Linked x v (suc t)) where
  -- "Level 0 is the engine"
  engine-is : position_on (v.fixed.path t) 0 ≡ x.engine_of t
  engine-is =
      so_far.loaded.path-is t below 0 (omega arith)
      ∙ position-engine x.k (x.engine_of t) (module_of x.k (x.address_of t)) (so_far.loaded.ranges.engines t) (module-below x.k (x.address_of t))

  module _ (e : ℕ) (engine : e ≡ x.engine_of t) where
    first_next : first_in v e ≡ next_of x e (suc t)
    first_next = rw so_far.count-is (next-given (next_of x e (suc t)) x.R (v.requests 0 e) (next-within x e (suc t) below) (so_far.first e))

    linked-at : Linked x (with_linked v t e) t
    linked-at = record {
      loaded = record {
        ranges = so_far.loaded.ranges;
        address_is = so_far.loaded.address_is;
        path-is = so_far.loaded.path-is;
        asked = so_far.loaded.asked;
      };
      k-is = so_far.k-is;
      q-is = so_far.q-is;
      w-is = so_far.w-is;
      count-is = so_far.count-is;
      every-is = so_far.every-is;
      after_is = λ u above within. by_cases (ℕ_discrete u t)
          (λ (q : u ≡ t). rw q (update_same v.fixed.after t (first_in v e) ∙ first_next ∙ ap (λ (d : ℕ). next_of x d (suc t)) engine))
          (λ (n : u ≢ t). update_other v.fixed.after t (first_in v e) n ∙ so_far.after_is u (omega arith) within);
      first = λ d. by_cases (ℕ_discrete d e)
          (λ (q : d ≡ e).
          rw (q, next_here x e t below (sym engine), so_far.count-is) (update2-same v.requests 0 e _))
          (λ (n : d ≢ e).
          let other : x.engine_of t ≢ d = λ z. n (sym z ∙ sym engine) in
          rw (next-later x d t below other) (update2-position v.requests 0 e _ 0 d n ∙ so_far.first d));
      quiet = record {
        unanswered = so_far.quiet.unanswered;
        no-requests = λ s p. let z : suc s ≢ 0 = omega arith in update2-level v.requests 0 e _ (suc s) p z ∙ so_far.quiet.no-requests s p;
        no-replies = so_far.quiet.no-replies;
        no-waits = so_far.quiet.no-waits;
        no-order = so_far.quiet.no-order;
        no-accesses = so_far.quiet.no-accesses;
        no-merges = so_far.quiet.no-merges;
      };
      no-rounds = so_far.no-rounds;
    }

  linked-more : Linked x (with_linked v t (position_on (v.fixed.path t) 0)) t
  linked-more = linked-at (position_on (v.fixed.path t) 0) engine-is

-- ---- all are linked
linked-all : (x : Network) (v : View) → Linked x v 0 → AtStart x v
linked-all x v all = record {
  fits = record {
    ranges = all.loaded.ranges;
    k-is = all.k-is;
    q-is = all.q-is;
    w-is = all.w-is;
    count-is = all.count-is;
    every-is = all.every-is;
    address_is = all.loaded.address_is;
    path-is = all.loaded.path-is;
    after_is = λ u within. all.after_is u (omega arith) within;
  };
  asked = all.loaded.asked;
  first = all.first;
  quiet = all.quiet;
}

-- ---- the loop: from the machine m₀, where none are linked, to the machine m, where those from t on are
pub record Linking (m₀ m : List ℕ) (count t : ℕ) : Type 0 where
  pub sized : length m ≡ size
  pub within : t ≤ count
  pub counted : (view m).fixed.count ≡ count
  pub links : (x : Network) → Linked x (view m₀) count → Linked x (view m) t

module _ {m : List ℕ} {k q w count : ℕ} (loaded : RequestsLoaded m k q w count) {m₀ : List ℕ}
    (shaping : Becomes m₀ (with_fixed (view m) (shaped (view m).fixed k q w count))) where
  pub linking-all : {m' : List ℕ} → Linking m₀ m' count 0 → Started m k q w count m'
  linking-all {m'} all = record {
    sized = all.sized;
    at-start = λ x requests a b c d. linked-all x (view m') (every x requests a b c d);
    no-rounds = (every loaded.network loaded.requests loaded.k-is loaded.q-is loaded.w-is loaded.count-is).no-rounds;
  }
    where
      every : (x : Network) → HasRequests x (view m) → k ≡ x.k → q ≡ x.Q → w ≡ x.W → count ≡ x.R → Linked x (view m') 0
      every x requests a b c d = all.links x (rw (shaping.holds, a, b, c, d) (linked-none x (view m) loaded.empty requests))

pub linking-more : {m₀ m m' : List ℕ} {count t : ℕ} → Linking m₀ m count t → 0 < t → LinkedTo (view m) (t - 1) m' → Linking m₀ m' count (t - 1)
linking-more {m = m} {t = t} so_far some more = record {
  sized = more.sized;
  within = omega arith;
  counted = ap (λ (v : View). v.fixed.count) more.links ∙ so_far.counted;
  links = λ x none.
      let before : Linked x (view m) t = so_far.links x none in
      let e : t ≡ suc (t - 1) = omega arith in
      let below : t - 1 < x.R = omega (arith, before.count-is, so_far.counted) in
      rw more.links (linked-more x (view m) (t - 1) below (rw e at before));
}

-- ---- an engine's first request, where it has one
pub first_some : (v : View) (e : ℕ) {none : Bool} → none ≡ eqb (length (v.requests 0 e)) 0 → none ≡ false → get_or (v.requests 0 e) 0 0 ≡ first_in v e
first_some v e told is = rw (sym told ∙ is)
