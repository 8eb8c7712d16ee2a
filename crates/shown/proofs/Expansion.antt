-- The requests that a message stands for, by the tags in the view's wait buffers, are the machine's; and the order list has room.
use Prim.Native.Nat.{ℕ, zero, suc, ◌+◌, ◌≤◌, ◌<◌}
use mathlib.Core.Path.{◌≡◌, refl, ap, ap₂, ◌∙◌}
use mathlib.Core.Bool.{Bool, true, false}
use mathlib.Core.List.{List, ◌∷◌, ◌++◌, map}
use native.Mathlib.Omega.{arith}
use lib.ListN.{length}
use lib.Dec.{eqb}
use Rattle.lists.specs.Choice.{choose}
use Rattle.lists.specs.Search.{All, nil, cons, only}
use Rattle.lists.specs.Inner.Pair.{Pair}
use Rattle.lists.proofs.Every.{all_map}
use Rattle.view.specs.Inner.View.{View}
use Rattle.machine.specs.Setup.{WaitRecord, place}
use Rattle.machine.specs.Arrival.{records_of}
use Rattle.machine.specs.State.{stands_for, seconds}
use Rattle.machine.specs.Order.{requested}
use Rattle.machine.specs.Inner.Sound.{Sound}
use Rattle.shown.specs.Inner.Network.{Network, setup, Fits}
use Rattle.shown.specs.Inner.Shown.{message_of, record_of, shown, seconds_for, tags_for}
use Rattle.shown.proofs.Apart.{Apart, tags-apart, waits-below, oldest-requested}
use Rattle.shown.proofs.Carried.{tags-above}

module _ (x : Network) (v : View) where
  -- "of each second tag recorded for t": the machine looks at the tags alone
  seconds-tags : (up_to up_to' : ℕ → List ℕ) (t : ℕ) {pairs : List Pair} → All (λ (r : Pair). up_to r.second ≡ up_to' r.second) pairs →
      seconds (setup x) up_to (records_of (setup x) t (map (record_of x v) pairs)) ≡ seconds_for up_to' t pairs
  unfolding records_of only
  seconds-tags up_to up_to' t nil = refl
  seconds-tags up_to up_to' t (cons {x = r} {xs = rs} e h) = go (records_of (setup x) t (map (record_of x v) rs)) (eqb r.first t) (seconds-tags up_to up_to' t h)
    where
      go : (those : List (WaitRecord (setup x))) (b : Bool) → seconds (setup x) up_to those ≡ seconds_for up_to' t rs →
          seconds (setup x) up_to (choose b (record_of x v r ∷ those) those) ≡ choose b (up_to' r.second ++ seconds_for up_to' t rs) (seconds_for up_to' t rs)
      go those true d = ap₂ ◌++◌ e d
      go those false d = d

  module _ (words : ℕ → ℕ) (F : Fits x v.fixed) (A : Apart x v) where
    pub stands-tags : (s t : ℕ) → s ≤ x.k → t < x.R → stands_for (setup x) (shown x v words).waits s t ≡ tags_for v.fixed.path v.waits s t
    unfolding shown stands_for tags_for
    stands-tags zero t h l = refl
    stands-tags (suc s) t h l =
        let e = F.path-is t l (suc s) h in
        rw e
        (ap₂ ◌++◌ (stands-tags s t (omega arith) l)
        (seconds-tags (stands_for (setup x) (shown x v words).waits s) (tags_for v.fixed.path v.waits s) t
        (all_map (λ (r : Pair) b. stands-tags s r.second (omega arith) b) (waits-below x v A (suc s) (place (setup x) t (suc s))))))

module _ (x : Network) (v : View) (words : ℕ → ℕ) (F : Fits x v.fixed) (S : Sound (setup x) (shown x v words)) where
  -- the oldest message at a module
  module-oldest : (p : ℕ) {t : ℕ} {rest : List ℕ} → v.requests x.k p ≡ t ∷ rest →
      (shown x v words).requests x.k p ≡ message_of x v t ∷ map (message_of x v) rest
  unfolding shown
  module-oldest p is = ap (map (message_of x v)) (tags-above x v x.k p F.ranges.k-least ∙ is)

  pub order-room : (p t : ℕ) (rest : List ℕ) → v.requests x.k p ≡ t ∷ rest →
      length v.order + length (tags_for v.fixed.path v.waits x.k t) ≤ x.R
  unfolding shown
  order-room p t rest is =
      let A : Apart x v = tags-apart x v words S.one_place in
      let l : t < x.R = A.below t (requested x.k p) (oldest-requested x v x.k p (tags-above x v x.k p F.ranges.k-least ∙ is)) in
      rw (← stands-tags x v words F A x.k t (omega arith) l)
      (S.next p (message_of x v t) (map (message_of x v) rest) (module-oldest p is))
