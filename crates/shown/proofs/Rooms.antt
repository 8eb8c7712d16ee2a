-- In a view that stands for a state that a run reaches, no queue is longer than its room, and so than the largest room there is.
use Prim.Native.Nat.{ℕ, suc, ◌≤◌}
use native.Mathlib.Nat.{le_trans}
use lib.ListN.{length, length-map}
use Rattle.view.specs.Inner.View.{View}
use Rattle.machine.specs.Inner.Rooms.{WithinRooms}
use Rattle.machine.proofs.Rooms.{rooms}
use Rattle.shown.specs.Inner.Network.{Network, setup}
use Rattle.shown.specs.Inner.Shown.{message_of, record_of, reply_of, shown}
use Rattle.shown.specs.Inner.Reached.{Stands}

module _ {x : Network} {v : View} {words : ℕ → ℕ} (S : Stands x v words) where
  pub stands-rooms : WithinRooms (setup x) (shown x v words)
  stands-rooms = rw S.reached.reached (rooms (setup x) S.reached.from S.reached.events)

  pub requests-within : (s p : ℕ) → length (v.requests (suc s) p) ≤ x.Q
  unfolding shown
  requests-within s p = rw (← length-map (v.requests (suc s) p) (message_of x v)) (stands-rooms.requests s p)

  pub replies-within : (s p : ℕ) → length (v.replies s p) ≤ x.Q
  unfolding shown
  replies-within s p = rw (← length-map (v.replies s p) (reply_of x v)) (stands-rooms.replies s p)

  pub waits-within : (s p : ℕ) → length (v.waits s p) ≤ x.W
  unfolding shown
  waits-within s p = rw (← length-map (v.waits s p) (record_of x v)) (stands-rooms.waits s p)

  -- "queue room Q 1 to 4; wait room W 0 to 8"
  pub requests-few : (s p : ℕ) → length (v.requests (suc s) p) ≤ 4
  requests-few s p = le_trans (requests-within s p) S.fits.ranges.Q-most

  pub replies-few : (s p : ℕ) → length (v.replies s p) ≤ 4
  replies-few s p = le_trans (replies-within s p) S.fits.ranges.Q-most

  pub waits-few : (s p : ℕ) → length (v.waits s p) ≤ 8
  waits-few s p = le_trans (waits-within s p) S.fits.ranges.W-most
