-- What the machine in code may rely on of a view that stands for a sound state: tags are of requests, their addresses and positions
-- are within the rooms, and counts are small.
use Prim.Native.Nat.{ℕ, zero, suc, ◌+◌, ◌*◌, ◌≤◌, ◌<◌}
use mathlib.Core.Path.{◌≡◌, ap}
use mathlib.Core.List.{List, ◌∷◌}
use native.Mathlib.Nat.{le_trans, mul-le-mul_left}
use native.Mathlib.Omega.{arith}
use Rattle.view.specs.Inner.View.{View}
use Rattle.machine.specs.Order.{requested}
use Rattle.machine.specs.Inner.Sound.{Sound}
use Rattle.shown.specs.Inner.Network.{Network, setup, Fits}
use Rattle.shown.specs.Inner.Shown.{unissued, shown}
use Rattle.shown.proofs.Apart.{Apart, oldest-requested}

module _ (x : Network) (v : View) (A : Apart x v) where
  -- ---- whose request it is
  -- at level 0 too: the engine's next unissued request
  pub request-below : (s p t : ℕ) (rest : List ℕ) → v.requests s p ≡ t ∷ rest → t < x.R
  request-below zero p t rest is = A.below t (requested zero p) (oldest-requested x v zero p (ap (unissued x p) is))
  request-below (suc s) p t rest is = A.below t (requested (suc s) p) (oldest-requested x v (suc s) p is)

module _ (x : Network) (v : View) (F : Fits x v.fixed) where
  pub address-few : (t : ℕ) → t < x.R → v.fixed.address t < 256
  address-few t l = rw (F.address_is t l) (F.ranges.addresses t)

  module _ (words : ℕ → ℕ) (S : Sound (setup x) (shown x v words)) where
    pub accesses-few : v.accesses ≤ 256
    unfolding shown
    accesses-few = omega (arith, S.accesses, F.ranges.R-most)

    -- "R times (2k + 2)"
    pub merges-few : v.merges ≤ 2560
    unfolding shown
    merges-few =
        let levels : 2 * x.k + 2 ≤ 10 = omega (arith, F.ranges.k-most) in
        let all : x.R * 10 ≤ 2560 = omega (arith, F.ranges.R-most) in
        le_trans S.merges (le_trans (mul-le-mul_left x.R levels) all)
