-- "k 1 to 4; queue room Q 1 to 4; wait room W 0 to 8", of a view that stands for a state.
use Prim.Native.Nat.{ℕ, zero, suc, ◌≤◌, ◌<◌}
use native.Mathlib.Nat.{le_trans}
use native.Mathlib.Omega.{arith}
use lib.ListN.{length}
use Rattle.view.specs.Inner.View.{View}
use Rattle.shown.specs.Inner.Network.{Network}
use Rattle.shown.specs.Inner.Reached.{Stands}
use Rattle.shown.proofs.Rooms.{requests-few, replies-few, waits-few}
use Rattle.replies.specs.Inner.Returns.{WaitsFit}

module _ {x : Network} {v : View} {words : ℕ → ℕ} (S : Stands x v words) where
  pub shape-small : (0 < v.fixed.k) × (v.fixed.k ≤ 4) × (v.fixed.q ≤ 4)
  shape-small =
      let F = S.fits in
      let R = F.ranges in
      (omega (arith, F.k-is, R.k-least), omega (arith, F.k-is, R.k-most), omega (arith, F.q-is, R.Q-most))

  pub level-small : (level : ℕ) → level ≤ v.fixed.k → level < 5
  level-small level h = omega (arith, h, shape-small)

  -- each fits in a word
  pub requests-fit : (s p : ℕ) → 0 < s → length (v.requests s p) ≤ 8
  requests-fit zero p h = absurd (omega arith)
  requests-fit (suc s) p h = le_trans (requests-few S s p) (omega arith)

  pub replies-fit : (s p : ℕ) → length (v.replies s p) ≤ 8
  replies-fit s p = le_trans (replies-few S s p) (omega arith)

  pub waits-fit : WaitsFit v
  waits-fit = record { few = waits-few S }
