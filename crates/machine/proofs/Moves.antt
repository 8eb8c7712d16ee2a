-- The moves: what a step does where it does something, with no word of rooms. The invariants are kept by moves; each step of
-- the definition is a move or changes nothing.
use Prim.Native.Nat.{ℕ, suc, ◌<◌}
use mathlib.Core.Path.{◌≡◌}
use mathlib.Core.Logic.{◌≢◌}
use mathlib.Core.List.{List, [], ◌∷◌, ◌++◌}
use Rattle.std.proofs.Common.{Some}
use Rattle.lists.specs.Search.{All}
use Rattle.machine.specs.Setup.{Setup, Message, WaitRecord, Reply, place}
use Rattle.machine.specs.Arrival.{Node, records_of}
use Rattle.machine.specs.State.{State}
use Rattle.machine.specs.Steps.{node_at, sent, taken, split, lowered, collect_oldest}

module _ (S : Setup) where
  open S use {Operation, merge, k}

  -- the node with m appended
  abbrev pub with_behind : Node S → Message S → Node S
  with_behind n m = record { queue = n.queue ++ (m ∷ []); waiting = n.waiting }

  -- the node with m merged into f, to the operation o: f's operation as it was is saved for m
  abbrev pub with_merged : Node S → Message S → List (Message S) → Message S → List (Message S) → Operation → Node S
  with_merged n m older f younger o = record {
    queue = older ++ (record { tag = f.tag; address = f.address; operation = o } ∷ younger);
    waiting = n.waiting ++ (record { first = f.tag; second = m.tag; operation = f.operation } ∷ []);
  }

  -- the oldest message m of level s, position p, has gone on, to the end of the queue one level up or into f there
  abbrev pub after_append : State S → ℕ → ℕ → Message S → List (Message S) → State S
  after_append st s p m rest =
      let to = place S m.tag (suc s) in
      sent S st s p rest to (with_behind (node_at S st (suc s) to) m) st.merges

  abbrev pub after_merge : State S → ℕ → ℕ → Message S → (rest older : List (Message S)) → Message S → List (Message S) → Operation → State S
  after_merge st s p m rest older f younger o =
      let to = place S m.tag (suc s) in
      sent S st s p rest to (with_merged (node_at S st (suc s) to) m older f younger o) (suc st.merges)

  pub data Move (st : State S) : State S → Type 0 where
    -- the oldest message goes to the end of the queue one level up
    appending : (s p : ℕ) (m : Message S) (rest : List (Message S)) → s < k → st.requests s p ≡ m ∷ rest → Move st (after_append st s p m rest)
    -- or into a message of its address that has none of that address behind it
    merging : (s p : ℕ) (m : Message S) (rest older : List (Message S)) (f : Message S) (younger : List (Message S)) (o : Operation)
        → s < k → st.requests s p ≡ m ∷ rest → st.requests (suc s) (place S m.tag (suc s)) ≡ older ++ (f ∷ younger)
        → f.address ≡ m.address → All (λ (y : Message S). y.address ≢ m.address) younger
        → merge f.operation m.operation ≡ Some o → Move st (after_merge st s p m rest older f younger o)
    serving : (p : ℕ) (m : Message S) (rest : List (Message S)) → st.requests k p ≡ m ∷ rest → Move st (taken S st p m rest)
    -- a second of the oldest reply is answered, one level down on its own path
    answering : (s p : ℕ) (t : Reply S) (rest : List (Reply S)) (older : List (WaitRecord S)) (r : WaitRecord S) (younger : List (WaitRecord S))
        → st.replies (suc s) p ≡ t ∷ rest → st.waits (suc s) p ≡ older ++ (r ∷ younger) → r.first ≡ t.tag
        → Move st (split S st s p t (older ++ younger) r (place S r.second s))
    -- the oldest reply goes one level down, where it has no second left
    lowering : (s p : ℕ) (t : Reply S) (rest : List (Reply S)) → st.replies (suc s) p ≡ t ∷ rest → records_of S t.tag (st.waits (suc s) p) ≡ []
        → Move st (lowered S st s p t rest (place S t.tag s))
    collecting : (e : ℕ) (t : Reply S) (rest : List (Reply S)) → st.replies 0 e ≡ t ∷ rest → Move st (collect_oldest S st e (t ∷ rest))
