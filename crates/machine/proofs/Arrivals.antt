-- What an arrival comes to: the message is merged into the youngest of its address, or appended, or there is no room.
use Prim.Native.Nat.{ℕ, ◌≤◌}
use mathlib.Core.Path.{◌≡◌, refl}
use mathlib.Core.Logic.{◌≢◌}
use mathlib.Core.List.{List, [], ◌∷◌, ◌++◌}
use Rattle.std.proofs.Common.{Option, None, Some}
use lib.ListN.{length}
use lib.Dec.{eqb}
use borrow.Author.Tests.{eqb-true, eqb-false}
use Rattle.lists.specs.Search.{All, Found, absent, found, first_of, last_of}
use Rattle.lists.proofs.Every.{all_map}
use Rattle.lists.proofs.Searches.{Last, last_of-is, First, first_of-is}
use Rattle.lists.proofs.Tests.{ltb-either}
use Rattle.machine.specs.Setup.{Setup, Message, WaitRecord}
use Rattle.machine.specs.Arrival.{Node, Arrival, merged, appended, refused, append, combine, meet, youngest, arrive, oldest_of, records_of}
use Rattle.machine.proofs.Records.{records-none}
use Rattle.machine.proofs.Moves.{with_behind, with_merged}

module _ (S : Setup) where
  open S use {Operation, merge, Q, W}

  -- ---- the youngest message of an address
  abbrev Youngest : ℕ → List (Message S) → Found (Message S) → Type 0
  Youngest a queue absent = Unit {0}
  Youngest a queue (found older f younger) = (queue ≡ older ++ (f ∷ younger)) × (f.address ≡ a) × All (λ (y : Message S). y.address ≢ a) younger

  youngest-is : (a : ℕ) (queue : List (Message S)) → Youngest a queue (youngest S a queue)
  unfolding youngest
  youngest-is a queue = go (last_of (λ (m : Message S). eqb m.address a) queue) (last_of-is (λ (m : Message S). eqb m.address a) queue)
    where
      go : (f : Found (Message S)) → Last (λ (m : Message S). eqb m.address a) queue f → Youngest a queue f
      go absent h = tt
      go (found older f younger) h = (h.0, eqb-true f.address a h.1, all_map (λ y n. eqb-false y.address a n) h.2)

  -- ---- the arrival
  pub record Merged (n : Node S) (m : Message S) (n' : Node S) : Type 0 where
    pub older : List (Message S)
    pub into : Message S
    pub younger : List (Message S)
    pub operation : Operation
    pub parts : n.queue ≡ older ++ (into ∷ younger)
    pub same : into.address ≡ m.address
    pub last : All (λ (y : Message S). y.address ≢ m.address) younger
    pub merges : merge into.operation m.operation ≡ Some operation
    pub node : n' ≡ with_merged S n m older into younger operation

  abbrev pub Arrived : Node S → Message S → Arrival S → Type 0
  Arrived n m (merged n') = Merged n m n'
  Arrived n m (appended n') = n' ≡ with_behind S n m
  Arrived n m refused = Q ≤ length n.queue

  module _ (n : Node S) (m : Message S) where
    append-is : Arrived n m (append S n m)
    unfolding append
    append-is = ltb-either (Arrived n m) (length n.queue) Q (λ _. refl) (λ h. h)

    combine-is : (older : List (Message S)) (f : Message S) (younger : List (Message S)) → Youngest m.address n.queue (found older f younger)
        → (o : Option Operation) → merge f.operation m.operation ≡ o → Arrived n m (combine S n m older f younger o)
    unfolding combine
    combine-is older f younger h None e = append-is
    combine-is older f younger h (Some o) e = ltb-either (Arrived n m) (length n.waiting) W
        (λ _. record {
          older = older;
          into = f;
          younger = younger;
          operation = o;
          parts = h.0;
          same = h.1;
          last = h.2;
          merges = e;
          node = refl;
        })
        (λ _. append-is)

    pub arrive-is : Arrived n m (arrive S n m)
    unfolding arrive meet
    arrive-is = go (youngest S m.address n.queue) (youngest-is m.address n.queue)
      where
        go : (f : Found (Message S)) → Youngest m.address n.queue f → Arrived n m (meet S n m f)
        go absent h = append-is
        go (found older f younger) h = combine-is older f younger h (merge f.operation m.operation) refl

  -- ---- the oldest record of a first tag
  abbrev pub Oldest : ℕ → List (WaitRecord S) → Found (WaitRecord S) → Type 0
  Oldest t waiting absent = records_of S t waiting ≡ []
  Oldest t waiting (found older r younger) = (waiting ≡ older ++ (r ∷ younger)) × (r.first ≡ t)

  pub oldest-is : (t : ℕ) (waiting : List (WaitRecord S)) → Oldest t waiting (oldest_of S t waiting)
  unfolding oldest_of
  oldest-is t waiting = go (first_of (λ (r : WaitRecord S). eqb r.first t) waiting) (first_of-is (λ (r : WaitRecord S). eqb r.first t) waiting)
    where
      go : (f : Found (WaitRecord S)) → First (λ (r : WaitRecord S). eqb r.first t) waiting f → Oldest t waiting f
      go absent h = records-none S t (all_map (λ r n. eqb-false r.first t n) h)
      go (found older r younger) h = (h.0, eqb-true r.first t h.1)
