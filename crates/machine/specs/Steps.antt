-- The five steps: document 01, "Steps". A step with nothing to move changes nothing.
use Rattle.std.specs.Prelude.{ℕ, suc, ◌-◌, List, [], ◌∷◌, ◌++◌, length, eqb, ltb}
use Rattle.std.proofs.Math.Option.{some}
use Rattle.lists.specs.Choice.{choose}
use Rattle.lists.specs.Table.{update, update2}
use Rattle.lists.specs.Search.{Found, absent, found}
use Rattle.event.specs.Event.{Event}
use Rattle.machine.specs.Setup.{Setup, Message, WaitRecord, Reply, place}
use Rattle.machine.specs.Arrival.{Node, Arrival, merged, appended, refused, arrive, oldest_of}
use Rattle.machine.specs.State.{State, stands_for, with_requests, with_waits, with_replies, with_words, with_order, with_answers, with_accesses, with_merges}

module _ (S : Setup) where
  open S use {apply, k, Q}

  -- ---- issue (from level 0) and forward
  -- the oldest message of level s, position p, has left it, and the node at level s + 1, position p', is n
  abbrev pub sent : State S → ℕ → ℕ → List (Message S) → ℕ → Node S → ℕ → State S
  sent st s p rest p' n merges =
      with_requests S (update2 (update2 st.requests s p rest) (suc s) p' n.queue)
      (with_waits S (update2 st.waits (suc s) p' n.waiting)
      (with_merges S merges st))

  unfoldable pub landed : State S → ℕ → ℕ → List (Message S) → ℕ → Arrival S → State S
  landed st s p rest p' (merged n) = sent st s p rest p' n (suc st.merges)
  landed st s p rest p' (appended n) = sent st s p rest p' n st.merges
  landed st s p rest p' refused = st

  -- the node at a level and position
  abbrev pub node_at : State S → ℕ → ℕ → Node S
  node_at st s p = record { queue = st.requests s p; waiting = st.waits s p }

  -- "the oldest message there arrives at level s+1", on its path
  unfoldable pub forward_oldest : State S → ℕ → ℕ → List (Message S) → State S
  forward_oldest st s p [] = st
  forward_oldest st s p (m ∷ rest) = landed st s p rest (place S m.tag (suc s)) (arrive S (node_at st (suc s) (place S m.tag (suc s))) m)

  unfoldable pub forward_step : ℕ → ℕ → State S → State S
  forward_step s p st = forward_oldest st s p (st.requests s p)

  -- "engine e's next unissued request, in trace order, arrives at level 1 on its path"
  abbrev pub issue_step : ℕ → State S → State S
  issue_step e st = forward_step 0 e st

  -- ---- module
  -- "take the oldest message, put (tag, old value) at the end of the reply queue here, store f(old)"; "At each module step the
  -- order list grows by all requests the message stands for"
  abbrev pub taken : State S → ℕ → Message S → List (Message S) → State S
  taken st p m rest =
      with_requests S (update2 st.requests k p rest)
      (with_replies S (update2 st.replies k p (st.replies k p ++ (record { tag = m.tag; value = st.words m.address } ∷ [])))
      (with_words S (update st.words m.address (apply m.operation (st.words m.address)))
      (with_order S (st.order ++ stands_for S st.waits k m.tag)
      (with_accesses S (suc st.accesses) st))))

  -- "Nothing happens if the reply queue is full"
  unfoldable pub serve_oldest : State S → ℕ → List (Message S) → State S
  serve_oldest st p [] = st
  serve_oldest st p (m ∷ rest) = choose (ltb (length (st.replies k p)) Q) (taken st p m rest) st

  unfoldable pub module_step : ℕ → State S → State S
  module_step p st = serve_oldest st p (st.requests k p)

  -- ---- return, from level s + 1 to level s
  -- "its second tag is answered with its stored operation applied to v, one level down on that tag's own path. The record
  -- goes, t stays."
  abbrev pub split : State S → ℕ → ℕ → Reply S → List (WaitRecord S) → WaitRecord S → ℕ → State S
  split st s p t others r p' =
      with_waits S (update2 st.waits (suc s) p others)
      (with_replies S (update2 st.replies s p' (st.replies s p' ++ (record { tag = r.second; value = apply r.operation t.value } ∷ []))) st)

  -- "If there is none, t itself moves one level down"
  abbrev pub lowered : State S → ℕ → ℕ → Reply S → List (Reply S) → ℕ → State S
  lowered st s p t rest p' = with_replies S (update2 (update2 st.replies (suc s) p rest) s p' (st.replies s p' ++ (t ∷ []))) st

  -- "If the target queue is full nothing changes"
  abbrev pub if_room : State S → ℕ → ℕ → State S → State S
  if_room st s p' after = choose (ltb (length (st.replies s p')) Q) after st

  unfoldable pub answered : State S → ℕ → ℕ → Reply S → List (Reply S) → Found (WaitRecord S) → State S
  answered st s p t rest absent = if_room st s (place S t.tag s) (lowered st s p t rest (place S t.tag s))
  answered st s p t rest (found older r younger) = if_room st s (place S r.second s) (split st s p t (older ++ younger) r (place S r.second s))

  -- "look at the oldest reply, tag t, value v"
  unfoldable pub return_oldest : State S → ℕ → ℕ → List (Reply S) → State S
  return_oldest st s p [] = st
  return_oldest st s p (t ∷ rest) = answered st s p t rest (oldest_of S t.tag (st.waits (suc s) p))

  unfoldable pub return_step : ℕ → ℕ → State S → State S
  return_step s p st = return_oldest st s p (st.replies (suc s) p)

  -- ---- collect
  -- "the oldest reply there becomes the answer of its request"
  unfoldable pub collect_oldest : State S → ℕ → List (Reply S) → State S
  collect_oldest st e [] = st
  collect_oldest st e (t ∷ rest) =
      with_replies S (update2 st.replies 0 e rest)
      (with_answers S (update st.answers t.tag (some t.value)) st)

  unfoldable pub collect_step : ℕ → State S → State S
  collect_step e st = collect_oldest st e (st.replies 0 e)

  -- ---- an event's what picks the step
  unfoldable pub step : Event → State S → State S
  step e st =
      choose (eqb e.what 0) (issue_step e.position st)
      (choose (eqb e.what 1) (forward_step e.level e.position st)
      (choose (eqb e.what 2) (module_step e.position st)
      (choose (eqb e.what 3) (return_step (e.level - 1) e.position st)
      (choose (eqb e.what 4) (collect_step e.position st)
      st))))
