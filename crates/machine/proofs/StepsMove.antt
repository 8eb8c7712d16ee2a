-- Each step of the machine is a move, or changes nothing: and then it has nothing to move, or no room where that would go.
use Prim.Native.Nat.{ℕ, suc, ◌-◌, ◌≤◌, ◌<◌}
use mathlib.Core.Path.{◌≡◌, refl, sym, subst}
use mathlib.Core.Bool.{Bool, true, false}
use mathlib.Core.List.{List, [], ◌∷◌}
use lib.ListN.{length}
use lib.Dec.{eqb, leb, ltb}
use borrow.Author.Tests.{ltb-true}
use Rattle.lists.specs.Choice.{choose, both}
use Rattle.lists.specs.Search.{Found, absent, found}
use Rattle.lists.proofs.Tests.{ltb-either, both_true}
use Rattle.event.specs.Event.{Event, level_fits}
use Rattle.machine.specs.Setup.{Setup, Message, WaitRecord, Reply, place}
use Rattle.machine.specs.Arrival.{Node, Arrival, merged, appended, refused, arrive, oldest_of}
use Rattle.machine.specs.State.{State}
use Rattle.machine.specs.Steps.{node_at, sent, landed, forward_oldest, serve_oldest, if_room, answered, return_oldest, collect_oldest}
use Rattle.machine.specs.Steps.{forward_step, module_step, return_step, collect_step, step}
use Rattle.machine.specs.Inner.Lawful.{Lawful}
use Rattle.machine.proofs.Arrivals.{Arrived, arrive-is, Oldest, oldest-is}
use Rattle.machine.proofs.Moves.{Move, appending, merging, serving, answering, lowering, collecting}

-- the one or the other statement
abbrev pub if_holds : Bool → Type 0 → Type 0 → Type 0
if_holds true P Q = P
if_holds false P Q = Q

module _ (S : Setup) where
  open S use {k, Q}

  -- a move, or nothing, and then a reason why
  pub data Does (why : Type 0) (st : State S) : State S → Type 0 where
    idle : why → Does why st st
    moved : {st' : State S} → Move S st st' → Does why st st'

  -- nothing there, or a queue that is full where it would go
  pub data Stuck {A B : Type 0} (here : List A) (next : ℕ → List B) : Type 0 where
    nothing : here ≡ [] → Stuck here next
    full : (q : ℕ) → Q ≤ length (next q) → Stuck here next

  -- why the step of an event changes nothing
  abbrev pub Why : Event → State S → Type 0
  Why e st =
      if_holds (eqb e.what 0) (Stuck (st.requests 0 e.position) (st.requests 1))
      (if_holds (eqb e.what 1) (Stuck (st.requests e.level e.position) (st.requests (suc e.level)))
      (if_holds (eqb e.what 2) (Stuck (st.requests k e.position) (λ _. st.replies k e.position))
      (if_holds (eqb e.what 3) (Stuck (st.replies (suc (e.level - 1)) e.position) (st.replies (e.level - 1)))
      (if_holds (eqb e.what 4) (st.replies 0 e.position ≡ [])
      (Unit {0})))))

  module _ (st : State S) where
    -- ---- issue and forward
    module _ (s p : ℕ) (lt : s < k) where
      abbrev Reason : Type 0
      Reason = Stuck (st.requests s p) (st.requests (suc s))

      -- the message m goes to its position one level up
      module _ (m : Message S) (rest : List (Message S)) (is : st.requests s p ≡ m ∷ rest) where
        abbrev to : ℕ
        to = place S m.tag (suc s)

        landed-does : (a : Arrival S) → Arrived S (node_at S st (suc s) to) m a → Does Reason st (landed S st s p rest to a)
        unfolding landed
        landed-does (merged n) h =
            subst (λ (x : Node S). Does Reason st (sent S st s p rest to x (suc st.merges))) (sym h.node)
            (moved (merging s p m rest h.older h.into h.younger h.operation lt is h.parts h.same h.last h.merges))
        landed-does (appended n) h =
            subst (λ (x : Node S). Does Reason st (sent S st s p rest to x st.merges)) (sym h) (moved (appending s p m rest lt is))
        landed-does refused h = idle (full to h)

        oldest-does : Does Reason st (forward_oldest S st s p (m ∷ rest))
        unfolding forward_oldest
        oldest-does = landed-does (arrive S (node_at S st (suc s) to) m) (arrive-is S (node_at S st (suc s) to) m)

      forward-does : Does Reason st (forward_step S s p st)
      unfolding forward_step forward_oldest
      forward-does = go (st.requests s p) refl
        where
          go : (l : List (Message S)) → st.requests s p ≡ l → Does Reason st (forward_oldest S st s p l)
          go [] is = idle (nothing is)
          go (m ∷ rest) is = oldest-does m rest is

    -- ---- module
    module _ (p : ℕ) where
      abbrev Ground : Type 0
      Ground = Stuck (st.requests k p) (λ _. st.replies k p)

      module-does : Does Ground st (module_step S p st)
      unfolding module_step serve_oldest
      module-does = go (st.requests k p) refl
        where
          go : (l : List (Message S)) → st.requests k p ≡ l → Does Ground st (serve_oldest S st p l)
          go [] is = idle (nothing is)
          go (m ∷ rest) is = ltb-either (Does Ground st) (length (st.replies k p)) Q (λ _. moved (serving p m rest is)) (λ h. idle (full 0 h))

    -- ---- return
    module _ (s p : ℕ) where
      abbrev Cause : Type 0
      Cause = Stuck (st.replies (suc s) p) (st.replies s)

      -- where the next queue has room, or not
      if-room : (to : ℕ) {after : State S} → Move S st after → Does Cause st (if_room S st s to after)
      if-room to m = ltb-either (Does Cause st) (length (st.replies s to)) Q (λ _. moved m) (λ l. idle (full to l))

      answered-does : (t : Reply S) (rest : List (Reply S)) → st.replies (suc s) p ≡ t ∷ rest
          → (f : Found (WaitRecord S)) → Oldest S t.tag (st.waits (suc s) p) f → Does Cause st (answered S st s p t rest f)
      unfolding answered
      answered-does t rest is absent h = if-room (place S t.tag s) (lowering s p t rest is h)
      answered-does t rest is (found older r younger) h = if-room (place S r.second s) (answering s p t rest older r younger is h.0 h.1)

      return-does : Does Cause st (return_step S s p st)
      unfolding return_step return_oldest
      return-does = go (st.replies (suc s) p) refl
        where
          go : (l : List (Reply S)) → st.replies (suc s) p ≡ l → Does Cause st (return_oldest S st s p l)
          go [] is = idle (nothing is)
          go (t ∷ rest) is = answered-does t rest is (oldest_of S t.tag (st.waits (suc s) p)) (oldest-is S t.tag (st.waits (suc s) p))

    -- ---- collect
    collect-does : (e : ℕ) → Does (st.replies 0 e ≡ []) st (collect_step S e st)
    unfolding collect_step collect_oldest
    collect-does e = go (st.replies 0 e) refl
      where
        go : (l : List (Reply S)) → st.replies 0 e ≡ l → Does (st.replies 0 e ≡ []) st (collect_oldest S st e l)
        go [] is = idle is
        go (t ∷ rest) is = moved (collecting e t rest is)

    -- ---- an event
    choose-does : (b : Bool) {f g : Bool} {P Q : Type 0} {x y : State S} → (f ≡ true → Does P st x) → (g ≡ true → Does Q st y)
        → choose b f g ≡ true → Does (if_holds b P Q) st (choose b x y)
    choose-does true h k = h
    choose-does false h k = k

    below-k : (s : ℕ) → both (leb 1 s) (ltb s k) ≡ true → s < k
    below-k s h = ltb-true s k (both_true (leb 1 s) (ltb s k) h).1

    pub step-does : Lawful S → (e : Event) → level_fits k e.what e.level ≡ true → Does (Why e st) st (step S e st)
    unfolding step level_fits
    step-does law e =
        choose-does (eqb e.what 0) (λ _. forward-does 0 e.position law.levels)
        (choose-does (eqb e.what 1) (λ h. forward-does e.level e.position (below-k e.level h))
        (choose-does (eqb e.what 2) (λ _. module-does e.position)
        (choose-does (eqb e.what 3) (λ _. return-does (e.level - 1) e.position)
        (choose-does (eqb e.what 4) (λ _. collect-does e.position)
        (λ _. idle tt)))))

  -- what every move keeps every step keeps
  pub step_keeps : Lawful S → (P : State S → Type 0) → ((a b : State S) → Move S a b → P a → P b)
      → (e : Event) → level_fits k e.what e.level ≡ true → (st : State S) → P st → P (step S e st)
  step_keeps law P f e fits st h = go (step S e st) (step-does st law e fits)
    where
      go : (st' : State S) → Does (Why e st) st st' → P st'
      go st' (idle w) = h
      go st' (moved m) = f st st' m h
