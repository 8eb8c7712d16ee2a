-- Each move takes one request nearer to its answer, and keeps everything else.
use Prim.Native.Nat.{ℕ, suc, ◌+◌, ◌*◌, ◌≤◌, ◌<◌}
use mathlib.Core.Path.{◌≡◌, refl, sym}
use mathlib.Core.Logic.{◌≢◌}
use mathlib.Core.List.{List, ◌∷◌, ◌++◌}
use native.Mathlib.Omega.{arith}
use Rattle.lists.specs.Table.{update, update2}
use Rattle.lists.specs.Count.{count}
use Rattle.lists.proofs.Tables.{update_same, update_other, update2-same, update2-ind}
use Rattle.lists.proofs.Counts.{same-yes, same-no, count-append}
use Rattle.machine.specs.Setup.{Setup, Message, WaitRecord, Reply, place}
use Rattle.machine.specs.State.{State}
use Rattle.machine.specs.Steps.{taken, split, lowered, collect_oldest}
use Rattle.machine.specs.Inner.Lawful.{Lawful}
use Rattle.machine.proofs.Tags.{message_tag, waiter_tag, reply_tag}
use Rattle.machine.proofs.Moves.{after_append, after_merge, Move, appending, merging, serving, answering, lowering, collecting}
use Rattle.machine.proofs.Invariant.{Invariant}
use Rattle.machine.proofs.Forward.{oldest, forward-keeps}
use Rattle.machine.proofs.Merge.{merge_keeps}
use Rattle.machine.proofs.Module.{module-keeps}
use Rattle.machine.proofs.Return.{oldest-reply, second, answer_keeps, lower-keeps, collect-keeps}
use Rattle.machine.proofs.Places.{at_end, at_request, at_wait, at_reply, wait-level, reply-level, left, left-falls, Held, Goes, goes-held}
use Rattle.machine.proofs.Places.{remaining, remaining-request, remaining-wait, remaining-reply, remaining-end}

-- ---- how often a request stands in a queue
-- another request, in a queue that lost its oldest
lost : {A : Type 0} (key : A → ℕ) (u : ℕ) (x : A) (rest : List A) → u ≢ key x → count key u (x ∷ rest) ≤ count key u rest
lost key u x rest n = omega (arith, same-no (λ (e : key x ≡ u). n (sym e)))

-- in all queues, where one of them becomes l
no-fewer : {A : Type 0} (key : A → ℕ) (u : ℕ) (f : ℕ → ℕ → List A) (s p : ℕ) (l : List A) → count key u (f s p) ≤ count key u l
    → (j q : ℕ) → count key u (f j q) ≤ count key u (update2 f s p l j q)
no-fewer key u f s p l h = update2-ind f s p l (λ j q l. count key u (f j q) ≤ count key u l) h (λ j q _. omega arith)

module _ (S : Setup) (words : ℕ → S.Word) where
  open S use {R}

  -- a state that the invariant holds of, with at most n moves left
  pub record Live (st : State S) (n : ℕ) : Type 0 where
    pub places : ℕ → ℕ
    pub invariant : Invariant S words places st
    pub held : Held S places st
    pub bound : left S places R ≤ n

  -- fewer moves left
  abbrev pub Nearer : State S → ℕ → Type 0
  Nearer st n = (n' : ℕ) × (n' < n) × Live st n'

  pub live_more : {st : State S} {n : ℕ} (n' : ℕ) → n ≤ n' → Live st n → Live st n'
  live_more n' l L = record { places = L.places; invariant = L.invariant; held = L.held; bound = omega (arith, L.bound) }

module _ (S : Setup) (law : Lawful S) (words : ℕ → S.Word) where
  open S use {k, R}

  module _ (places : ℕ → ℕ) (st : State S) (I : Invariant S words places st) (H : Held S places st) (n : ℕ) (b : left S places R ≤ n) where
    go : (t v : ℕ) {st' : State S} → Invariant S words (update places t v) st' → Goes S places st st' t v → remaining S v < remaining S (places t)
        → Nearer S words st' n
    go t v {st'} I' G less = (
      left S (update places t v) R,
      omega (arith, left-falls S places t v less R (H.known t G.uncollected)),
      record { places = update places t v; invariant = I'; held = goes-held S places st st' t v H G; bound = omega arith },
    )

    module _ (s p : ℕ) (m : Message S) (rest : List (Message S)) (lt : s < k) (is : st.requests s p ≡ m ∷ rest) where
      abbrev p' : ℕ
      p' = place S m.tag (suc s)

      here : places m.tag ≡ 4 * s
      here = (oldest S words places st I s p m rest is).0

      -- whatever the next queue becomes, the others lose no other request
      requests-lost : (u : ℕ) → u ≢ m.tag → (queue : List (Message S)) → count (message_tag S) u (st.requests (suc s) p') ≤ count (message_tag S) u queue
          → (j q : ℕ) → count (message_tag S) u (st.requests j q) ≤ count (message_tag S) u (update2 (update2 st.requests s p rest) (suc s) p' queue j q)
      requests-lost u n queue h = update2-ind _ _ _ _ (λ j q l. count (message_tag S) u (st.requests j q) ≤ count (message_tag S) u l) h
          (λ j q _. no-fewer (message_tag S) u _ _ _ _ (rw is (lost (message_tag S) u m rest n)) j q)

      append-live : Nearer S words (after_append S st s p m rest) n
      append-live = go m.tag (4 * suc s) (forward-keeps S law words places st I s p m rest is lt)
          (record {
            to = at_request (suc s) lt refl;
            uncollected = omega (arith, here);
            requests = λ u n. requests-lost u n _ (rw count-append (omega arith));
            waits = λ u n. no-fewer (waiter_tag S) u _ _ _ _ (omega arith);
            replies = λ u n j q. omega arith;
            answers = λ u n h. h;
            to_requests = λ s' h. let i : s' ≡ suc s = omega arith in rw (i, update2-same, count-append, same-yes) (omega arith);
            to_waits = λ s' h. absurd (omega arith);
            to_replies = λ s' h. absurd (omega arith);
            to_answers = λ h. absurd (omega arith);
          })
          (rw (here, remaining-request S, remaining-request S) (omega arith))

      merge-live : (older : List (Message S)) (f : Message S) (younger : List (Message S)) (o : S.Operation)
          → st.requests (suc s) p' ≡ older ++ (f ∷ younger)
          → Invariant S words (update places m.tag (4 * suc s + 1)) (after_merge S st s p m rest older f younger o)
          → Nearer S words (after_merge S st s p m rest older f younger o) n
      merge-live older f younger o parts I' = go m.tag (4 * suc s + 1) I'
          (record {
            to = at_wait s lt refl;
            uncollected = omega (arith, here);
            requests = λ u n. requests-lost u n _ (rw (parts, count-append, count-append) (omega arith));
            waits = λ u n. no-fewer (waiter_tag S) u _ _ _ _ (rw count-append (omega arith));
            replies = λ u n j q. omega arith;
            answers = λ u n h. h;
            to_requests = λ s' h. absurd (omega arith);
            to_waits = λ s' h. let i : s' ≡ suc s = omega arith in rw (i, update2-same, count-append, same-yes) (omega arith);
            to_replies = λ s' h. absurd (omega arith);
            to_answers = λ h. absurd (omega arith);
          })
          (rw (here, remaining-request S, remaining-wait S) (omega arith))

    serve-live : (p : ℕ) (m : Message S) (rest : List (Message S)) → st.requests k p ≡ m ∷ rest → Nearer S words (taken S st p m rest) n
    serve-live p m rest is =
        let here = oldest S words places st I k p m rest is in
        go m.tag (4 * k + 2) (module-keeps S law words places st I p m rest is)
        (record {
          to = at_reply k (omega arith) refl;
          uncollected = omega (arith, here.0);
          requests = λ u n. no-fewer (message_tag S) u _ _ _ _ (rw is (lost (message_tag S) u m rest n));
          waits = λ u n j q. omega arith;
          replies = λ u n. no-fewer (reply_tag S) u _ _ _ _ (rw count-append (omega arith));
          answers = λ u n h. h;
          to_requests = λ s' h. absurd (omega arith);
          to_waits = λ s' h. absurd (omega arith);
          to_replies = λ s' h. let i : s' ≡ k = omega arith in rw (i, here.1.0, update2-same, count-append, same-yes) (omega arith);
          to_answers = λ h. absurd (omega arith);
        })
        (rw (here.0, remaining-request S, remaining-reply S) (omega arith))

    answer-live : (s p : ℕ) (t : Reply S) (rest : List (Reply S)) (older : List (WaitRecord S)) (r : WaitRecord S) (younger : List (WaitRecord S))
        → st.replies (suc s) p ≡ t ∷ rest → st.waits (suc s) p ≡ older ++ (r ∷ younger) → r.first ≡ t.tag
        → Nearer S words (split S st s p t (older ++ younger) r (place S r.second s)) n
    answer-live s p t rest older r younger is parts of =
        let here = (second S words places st I s p older r younger parts).0 in
        go r.second (4 * s + 2) (answer_keeps S words places st I s p t rest older r younger is parts of)
        (record {
          to = at_reply s (omega (arith, wait-level S s here (H.spot r.second))) refl;
          uncollected = omega (arith, here);
          requests = λ u n j q. omega arith;
          waits = λ u n. no-fewer (waiter_tag S) u _ _ _ _ (rw (parts, count-append, count-append) (omega (arith, same-no (λ (e : r.second ≡ u). n (sym e)))));
          replies = λ u n. no-fewer (reply_tag S) u _ _ _ _ (rw count-append (omega arith));
          answers = λ u n h. h;
          to_requests = λ s' h. absurd (omega arith);
          to_waits = λ s' h. absurd (omega arith);
          to_replies = λ s' h. let i : s' ≡ s = omega arith in rw (i, update2-same, count-append, same-yes) (omega arith);
          to_answers = λ h. absurd (omega arith);
        })
        (rw (here, remaining-wait S, remaining-reply S) (omega arith))

    lower-live : (s p : ℕ) (t : Reply S) (rest : List (Reply S)) → st.replies (suc s) p ≡ t ∷ rest
        → Invariant S words (update places t.tag (4 * s + 2)) (lowered S st s p t rest (place S t.tag s))
        → Nearer S words (lowered S st s p t rest (place S t.tag s)) n
    lower-live s p t rest is I' =
        let here = (oldest-reply S words places st I (suc s) p t rest is).0 in
        go t.tag (4 * s + 2) I'
        (record {
          to = at_reply s (omega (arith, reply-level S (suc s) here (H.spot t.tag))) refl;
          uncollected = omega (arith, here);
          requests = λ u n j q. omega arith;
          waits = λ u n j q. omega arith;
          replies = λ u n. update2-ind _ _ _ _ (λ j q l. count (reply_tag S) u (st.replies j q) ≤ count (reply_tag S) u l) (rw count-append (omega arith))
              (λ j q _. no-fewer (reply_tag S) u _ _ _ _ (rw is (lost (reply_tag S) u t rest n)) j q);
          answers = λ u n h. h;
          to_requests = λ s' h. absurd (omega arith);
          to_waits = λ s' h. absurd (omega arith);
          to_replies = λ s' h. let i : s' ≡ s = omega arith in rw (i, update2-same, count-append, same-yes) (omega arith);
          to_answers = λ h. absurd (omega arith);
        })
        (rw (here, remaining-reply S, remaining-reply S) (omega arith))

    collect-live : (e : ℕ) (t : Reply S) (rest : List (Reply S)) → st.replies 0 e ≡ t ∷ rest → Nearer S words (collect_oldest S st e (t ∷ rest)) n
    unfolding collect_oldest
    collect-live e t rest is =
        let here = (oldest-reply S words places st I 0 e t rest is).0 in
        go t.tag 3 (collect-keeps S words places st I e t rest is)
        (record {
          to = at_end refl;
          uncollected = omega (arith, here);
          requests = λ u n j q. omega arith;
          waits = λ u n j q. omega arith;
          replies = λ u n. no-fewer (reply_tag S) u _ _ _ _ (rw is (lost (reply_tag S) u t rest n));
          answers = λ u n h. rw (update_other st.answers t.tag _ n) h;
          to_requests = λ s' h. absurd (omega arith);
          to_waits = λ s' h. absurd (omega arith);
          to_replies = λ s' h. absurd (omega arith);
          to_answers = λ h. rw update_same;
        })
        (rw (here, remaining-end S, remaining-reply S 0) (omega arith))

  -- after each move less is left
  pub move_live : {a b : State S} → Move S a b → (n : ℕ) → Live S words a n → Nearer S words b n
  move_live {a} (appending s p m rest lt is) n L = append-live L.places a L.invariant L.held n L.bound s p m rest lt is
  move_live {a} (merging s p m rest older f younger o lt is parts same last merges) n L =
      let applies = law.merge-applies f.operation m.operation o merges in
      merge-live L.places a L.invariant L.held n L.bound s p m rest lt is older f younger o parts
      (merge_keeps S law words L.places a L.invariant s p m rest is lt older f younger o parts same last applies)
  move_live {a} (serving p m rest is) n L = serve-live L.places a L.invariant L.held n L.bound p m rest is
  move_live {a} (answering s p t rest older r younger is parts of) n L =
      answer-live L.places a L.invariant L.held n L.bound s p t rest older r younger is parts of
  move_live {a} (lowering s p t rest is free) n L =
      lower-live L.places a L.invariant L.held n L.bound s p t rest is (lower-keeps S words L.places a L.invariant s p t rest is free)
  move_live {a} (collecting e t rest is) n L = collect-live L.places a L.invariant L.held n L.bound e t rest is
