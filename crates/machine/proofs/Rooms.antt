-- No queue is ever longer than its room: what is put at an end is put there only where there is room, a merge keeps the queue's length,
-- and all else gets shorter.
use Prim.Native.Nat.{ℕ, zero, suc, ◌-◌, ◌≤◌, ◌<◌}
use mathlib.Core.Path.{◌≡◌, refl, ap}
use Rattle.std.proofs.Common.{Option, None, Some}
use mathlib.Core.List.{List, [], ◌∷◌, ◌++◌}
use native.Mathlib.Omega.{arith}
use lib.ListN.{length, length-append}
use lib.Dec.{eqb}
use Rattle.lists.specs.Search.{Found, absent, found}
use Rattle.lists.specs.Table.{update2}
use Rattle.lists.proofs.Tables.{update2-ind}
use Rattle.lists.proofs.Searches.{Last, last_of-is}
use Rattle.lists.proofs.Tests.{either, ltb-either}
use Rattle.lists.proofs.Every.{all-every}
use Rattle.event.specs.Event.{Event}
use Rattle.machine.specs.Setup.{Setup, Message, WaitRecord, Reply, place}
use Rattle.machine.specs.Arrival.{Node, Arrival, merged, appended, refused, append, replaced, recorded, combine, meet, youngest, arrive, oldest_of}
use Rattle.machine.specs.State.{State, unissued, start}
use Rattle.machine.specs.Steps.{node_at, sent, landed, forward_oldest, serve_oldest, answered, return_oldest, collect_oldest}
use Rattle.machine.specs.Steps.{forward_step, module_step, return_step, collect_step, step}
use Rattle.machine.specs.Run.{run_events}
use Rattle.machine.specs.Inner.Rooms.{WithinRooms}
use Rattle.machine.proofs.Arrivals.{Oldest, oldest-is}
use Rattle.machine.proofs.Moments.{after-events}

-- from a level on, no list is longer than the room
record Short {A : Type 0} (from room : ℕ) (f : ℕ → ℕ → List A) : Type 0 where
  at : (s p : ℕ) → from ≤ s → length (f s p) ≤ room

module _ {A : Type 0} {from room : ℕ} {f : ℕ → ℕ → List A} (h : Short from room f) (s p : ℕ) where
  short-update : (l : List A) → (from ≤ s → length l ≤ room) → Short from room (update2 f s p l)
  short-update l z = record { at = update2-ind f s p l (λ s' _ l. from ≤ s' → length l ≤ room) z (λ s' p' _. h.at s' p') }

  -- the oldest has left
  short-rest : {x : A} {rest : List A} → f s p ≡ x ∷ rest → Short from room (update2 f s p rest)
  short-rest {rest = rest} is = short-update rest (λ z. omega (arith, h.at s p z, ap length is))

  -- one is put at the end of what has room
  short-put : (l : List A) (x : A) → length l < room → Short from room (update2 f s p (l ++ (x ∷ [])))
  short-put l x lt = short-update (l ++ (x ∷ [])) (λ _. omega (arith, length-append l (x ∷ [])))

module _ (S : Setup) where
  open S use {Operation, merge, k, Q, W}

  -- ---- an arrival
  abbrev NodeShort : Node S → Type 0
  NodeShort n = (length n.queue ≤ Q) × (length n.waiting ≤ W)

  abbrev Leaves : Arrival S → Type 0
  Leaves (merged n) = NodeShort n
  Leaves (appended n) = NodeShort n
  Leaves refused = Unit {0}

  arrive-short : (n : Node S) (m : Message S) → NodeShort n → Leaves (arrive S n m)
  unfolding append combine meet youngest arrive
  arrive-short n m (q, w) = found-short (youngest S m.address n.queue) (last_of-is (λ (m' : Message S). eqb m'.address m.address) n.queue)
    where
      append-short : Leaves (append S n m)
      append-short = ltb-either Leaves (length n.queue) Q (λ h. (omega (arith, length-append n.queue (m ∷ [])), w)) (λ _. tt)

      combine-short : (older : List (Message S)) (f : Message S) (younger : List (Message S)) → n.queue ≡ older ++ (f ∷ younger)
          → (o : Option Operation) → Leaves (combine S n m older f younger o)
      combine-short older f younger is None = append-short
      combine-short older f younger is (Some o) = ltb-either Leaves (length n.waiting) W
          (λ h.
          let before = length-append older (f ∷ younger) in
          let after = length-append older (replaced S f o ∷ younger) in
          (omega (arith, ap length is, before, after), omega (arith, length-append n.waiting (recorded S f m ∷ []))))
          (λ _. append-short)

      found-short : (f : Found (Message S)) → Last (λ (m' : Message S). eqb m'.address m.address) n.queue f → Leaves (meet S n m f)
      found-short absent h = append-short
      found-short (found older f younger) h = combine-short older f younger h.0 (merge f.operation m.operation)

  -- ---- the steps
  -- `WithinRooms` with the level as a bound
  abbrev Within : State S → Type 0
  Within st = Short 1 Q st.requests × Short 0 Q st.replies × Short 0 W st.waits

  module _ (st : State S) (fit : Within st) where
    forward-within : (s p : ℕ) → Within (forward_step S s p st)
    unfolding forward_step forward_oldest landed
    forward-within s p = go (st.requests s p) refl
      where
        sent-within : {m : Message S} (rest : List (Message S)) → st.requests s p ≡ m ∷ rest → (p' : ℕ) (n : Node S) (merges : ℕ) → NodeShort n
            → Within (sent S st s p rest p' n merges)
        sent-within rest is p' n merges (q, w) =
            (short-update (short-rest fit.0 s p is) (suc s) p' n.queue (λ _. q), fit.1, short-update fit.2 (suc s) p' n.waiting (λ _. w))

        landed-within : {m : Message S} (rest : List (Message S)) → st.requests s p ≡ m ∷ rest → (p' : ℕ) (a : Arrival S) → Leaves a
            → Within (landed S st s p rest p' a)
        landed-within rest is p' (merged n) h = sent-within rest is p' n (suc st.merges) h
        landed-within rest is p' (appended n) h = sent-within rest is p' n st.merges h
        landed-within rest is p' refused h = fit

        go : (l : List (Message S)) → st.requests s p ≡ l → Within (forward_oldest S st s p l)
        go [] is = fit
        go (m ∷ rest) is =
            let to = place S m.tag (suc s) in
            let n = node_at S st (suc s) to in
            landed-within rest is to (arrive S n m) (arrive-short n m (fit.0.at (suc s) to (omega arith), fit.2.at (suc s) to (omega arith)))

    module-within : (p : ℕ) → Within (module_step S p st)
    unfolding module_step serve_oldest
    module-within p = go (st.requests k p) refl
      where
        go : (l : List (Message S)) → st.requests k p ≡ l → Within (serve_oldest S st p l)
        go [] is = fit
        go (m ∷ rest) is =
            ltb-either Within (length (st.replies k p)) Q
            (λ h. (short-rest fit.0 k p is, short-put fit.1 k p (st.replies k p) _ h, fit.2)) (λ _. fit)

    return-within : (s p : ℕ) → Within (return_step S s p st)
    unfolding return_step return_oldest answered
    return-within s p = go (st.replies (suc s) p) refl
      where
        found_within : (t : Reply S) (rest : List (Reply S)) → st.replies (suc s) p ≡ t ∷ rest → (f : Found (WaitRecord S))
            → Oldest S t.tag (st.waits (suc s) p) f → Within (answered S st s p t rest f)
        found_within t rest is absent h =
            let to = place S t.tag s in
            ltb-either Within (length (st.replies s to)) Q
            (λ l. (fit.0, short-put (short-rest fit.1 (suc s) p is) s to (st.replies s to) t l, fit.2)) (λ _. fit)
        found_within t rest is (found older r younger) h =
            let to = place S r.second s in
            let fewer = short-update fit.2 (suc s) p (older ++ younger)
            (λ z. omega (arith, fit.2.at (suc s) p z, ap length h.0, length-append older (r ∷ younger), length-append older younger)) in
            ltb-either Within (length (st.replies s to)) Q (λ l. (fit.0, short-put fit.1 s to (st.replies s to) _ l, fewer)) (λ _. fit)

        go : (l : List (Reply S)) → st.replies (suc s) p ≡ l → Within (return_oldest S st s p l)
        go [] is = fit
        go (t ∷ rest) is = found_within t rest is (oldest_of S t.tag (st.waits (suc s) p)) (oldest-is S t.tag (st.waits (suc s) p))

    collect-within : (e : ℕ) → Within (collect_step S e st)
    unfolding collect_step collect_oldest
    collect-within e = go (st.replies 0 e) refl
      where
        go : (l : List (Reply S)) → st.replies 0 e ≡ l → Within (collect_oldest S st e l)
        go [] is = fit
        go (t ∷ rest) is = (fit.0, short-rest fit.1 0 e is, fit.2)

    step-within : (e : Event) → Within (step S e st)
    unfolding step
    step-within e =
        either Within (eqb e.what 0) (forward-within 0 e.position)
        (either Within (eqb e.what 1) (forward-within e.level e.position)
        (either Within (eqb e.what 2) (module-within e.position)
        (either Within (eqb e.what 3) (return-within (e.level - 1) e.position)
        (either Within (eqb e.what 4) (collect-within e.position)
        fit))))

  -- ---- an event, the start, and so every list of events
  step-rooms : (e : Event) (st : State S) → WithinRooms S st → WithinRooms S (step S e st)
  step-rooms e st r =
      let z = step-within st (record { at = above }, record { at = λ s p _. r.replies s p }, record { at = λ s p _. r.waits s p }) e in
      record { requests = λ s p. z.0.at (suc s) p (omega arith); replies = λ s p. z.1.at s p (omega arith); waits = λ s p. z.2.at s p (omega arith) }
    where
      above : (s p : ℕ) → 1 ≤ s → length (st.requests s p) ≤ Q
      above zero p h = absurd (omega arith)
      above (suc s) p h = r.requests s p

  start-rooms : (words : ℕ → S.Word) → WithinRooms S (start S words)
  unfolding start unissued
  start-rooms words = record { requests = λ s p. omega arith; replies = λ s p. omega arith; waits = λ s p. omega arith }

  pub rooms : (words : ℕ → S.Word) (es : List Event) → WithinRooms S (run_events S es (start S words))
  rooms words es = after-events S {F = λ _. Unit {0}} (WithinRooms S) (λ e _. step-rooms e) (all-every (λ _. tt) es) (start S words) (start-rooms words)
