-- No queue is longer than its room: document 01, "Each position at levels 1 to k has a request queue (room Q) and a wait buffer (room W). Each
-- position at levels 0 to k has a reply queue (room Q)".
use Rattle.std.specs.Prelude.{ℕ, suc, ◌≤◌, length}
use Rattle.machine.specs.Setup.{Setup}
use Rattle.machine.specs.State.{State}

module _ (S : Setup) where
  open S use {Q, W}

  -- the requests at level 0 are those that are not issued: they stand in no queue
  pub record WithinRooms (st : State S) : Type 0 where
    pub requests : (s p : ℕ) → length (st.requests (suc s) p) ≤ Q
    pub replies : (s p : ℕ) → length (st.replies s p) ≤ Q
    pub waits : (s p : ℕ) → length (st.waits s p) ≤ W
