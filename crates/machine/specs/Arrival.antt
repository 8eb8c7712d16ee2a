-- A message arriving at a request queue, and the taking of a wait record: document 01, "Wiring and queues" and "Steps".
use Rattle.std.specs.Prelude.{ℕ, List, [], ◌∷◌, ◌++◌, length, eqb, ltb, Option, Some, None}
use Rattle.lists.specs.Choice.{choose}
use Rattle.lists.specs.Search.{Found, absent, found, first_of, last_of, only}
use Rattle.machine.specs.Setup.{Setup, Message, WaitRecord}

module _ (S : Setup) where
  open S use {Operation, merge, Q, W}

  -- "Each position at levels 1 to k has a request queue (room Q) and a wait buffer (room W)": both oldest first
  pub record Node : Type 0 where
    pub queue : List (Message S)
    pub waiting : List (WaitRecord S)

  -- what an arrival comes to: the node with the message merged into it or appended, or nothing
  pub data Arrival : Type 0 where
    merged : Node → Arrival
    appended : Node → Arrival
    refused : Arrival

  -- "Otherwise append if the queue has room. Otherwise the step changes nothing."
  unfoldable pub append : Node → Message S → Arrival
  append n m =
      choose (ltb (length n.queue) Q)
      (appended (record { queue = n.queue ++ (m ∷ []); waiting = n.waiting }))
      refused

  -- "replace its operation by the merged one, keep its tag and place"
  abbrev pub replaced : Message S → Operation → Message S
  replaced f o = record { tag = f.tag; address = f.address; operation = o }

  -- "add a wait record at the end"
  abbrev pub recorded : Message S → Message S → WaitRecord S
  recorded f m = record { first = f.tag; second = m.tag; operation = f.operation }

  -- f is the youngest message with m's address; "If .. the two kinds merge (older first) and the wait buffer has room"
  unfoldable pub combine : Node → Message S → List (Message S) → Message S → List (Message S) → Option Operation → Arrival
  combine n m older f younger None = append n m
  combine n m older f younger (Some o) =
      choose (ltb (length n.waiting) W)
      (merged (record { queue = older ++ (replaced f o ∷ younger); waiting = n.waiting ++ (recorded f m ∷ []) }))
      (append n m)

  unfoldable pub meet : Node → Message S → Found (Message S) → Arrival
  meet n m absent = append n m
  meet n m (found older f younger) = combine n m older f younger (merge f.operation m.operation)

  -- "take the youngest message in the queue with the same address"
  unfoldable pub youngest : ℕ → List (Message S) → Found (Message S)
  youngest a queue = last_of (λ (m : Message S). eqb m.address a) queue

  unfoldable pub arrive : Node → Message S → Arrival
  arrive n m = meet n m (youngest m.address n.queue)

  -- "If the wait buffer here has records whose first tag is t, take the oldest of them"
  unfoldable pub oldest_of : ℕ → List (WaitRecord S) → Found (WaitRecord S)
  oldest_of t waiting = first_of (λ (r : WaitRecord S). eqb r.first t) waiting

  -- the records whose first tag is t, oldest first
  unfoldable pub records_of : ℕ → List (WaitRecord S) → List (WaitRecord S)
  records_of t waiting = only (λ (r : WaitRecord S). eqb r.first t) waiting
