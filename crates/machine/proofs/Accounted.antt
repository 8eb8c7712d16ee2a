-- No. 2: of an address that gets loads and adds only, the word and the octets under way make up the starting word and the octets issued, at every
-- moment; and where none is unanswered the word is all of it.
use Prim.Native.Nat.{ℕ, zero, suc, ◌+◌, ◌*◌, ◌≤◌, ◌<◌}
use mathlib.Core.Path.{◌≡◌, refl, sym, ◌∙◌, ap}
use mathlib.Core.Logic.{◌≢◌}
use mathlib.Core.Bool.{true}
use mathlib.Core.List.{List, [], ◌∷◌, ◌++◌}
use Rattle.std.proofs.Common.{Some}
use native.Mathlib.Decide.{ℕ_discrete}
use native.Mathlib.Omega.{arith}
use Rattle.lists.specs.Search.{All, nil, cons}
use Rattle.lists.specs.Table.{update2}
use Rattle.lists.specs.Count.{total}
use Rattle.lists.proofs.Tests.{by_cases}
use Rattle.lists.proofs.Every.{all_head, all_tail, all_map, all_append, all_left, all_right, all_more}
use Rattle.lists.proofs.Tables.{update_same, update_other, update2-same, update2-level, update2-position, update2-other, update2-ind, update2-idle}
use Rattle.lists.proofs.Below.{all-below}
use Rattle.lists.proofs.Totals.{total-append}
use Rattle.event.specs.Event.{Act}
use Rattle.machine.specs.Setup.{Setup, Message, place}
use Rattle.machine.specs.State.{State, asked, unissued, start, with_requests}
use Rattle.machine.specs.Steps.{taken, collect_oldest}
use Rattle.machine.specs.Run.{all_answered, moments}
use Rattle.machine.specs.Order.{Named}
use Rattle.machine.specs.Octets.{Counter, LoadsAndAdds, octets_in, octets_under_way, octets_issued, Accounted, Settled}
use Rattle.machine.specs.Inner.Lawful.{Lawful, LawfulCounter}
use Rattle.machine.proofs.Moves.{Move, appending, merging, serving, answering, lowering, collecting}
use Rattle.machine.proofs.Forward.{oldest, oldest-rest}
use Rattle.machine.proofs.Progress.{Live}
use Rattle.machine.proofs.Start.{Asked, asked-all, start-live}
use Rattle.machine.proofs.StepsMove.{step_keeps}
use Rattle.machine.proofs.Moments.{every-moment}
use Rattle.machine.proofs.Drain.{move-keeps-live}
use Rattle.machine.proofs.Rest.{answered-empty}
use Rattle.machine.proofs.Octets.{octets-here, octets-elsewhere, under-way-same, under-way-none, under-way-more}
use Rattle.machine.proofs.Octets.{issued-same, issued-all, issued-none, issued-one}

module _ (S : Setup) (C : Counter S.Word S.Operation) (words : ℕ → S.Word) (a : ℕ) where
  open S use {Operation, apply, merge, k, R}
  open C use {number, cut, is_load_or_add, operand}

  -- what a message brings to a, what the messages of a queue do, what is under way and what is issued
  abbrev brings : Message S → ℕ
  brings = octets_in S C a

  abbrev in_queue : List (Message S) → ℕ
  in_queue = total brings

  abbrev under_way : State S → ℕ
  under_way st = octets_under_way S C st a

  abbrev issued : State S → ℕ
  issued st = octets_issued S C st a

  -- ---- what holds of a state
  -- a message for a is a load or an add, and one that is not issued is as it was asked
  abbrev Fair : ℕ → Message S → Type 0
  Fair s m = (m.address ≡ a → is_load_or_add m.operation ≡ true) × (s ≡ 0 → m ≡ asked S m.tag)

  record Counted (st : State S) : Type 0 where
    fair : (s p : ℕ) → All (Fair s) (st.requests s p)
    balance : Accounted S C words a st
    fits : cut (number (words a)) ≡ number (words a) → cut (number (st.words a)) ≡ number (st.words a)

  -- nothing but the request queues and the word is looked at
  alike : (st st' : State S) → ((s p : ℕ) → st'.requests s p ≡ st.requests s p) → number (st'.words a) ≡ number (st.words a) → Counted st → Counted st'
  alike st st' queues word c = record {
    fair = λ s p. rw (queues s p) (c.fair s p);
    balance =
        let moving = under-way-same S C a st st' (λ s p. queues (suc s) p) in
        let asking = issued-same S C a st st' (queues 0) in
        ap cut (omega (arith, word, moving)) ∙ c.balance ∙ ap cut (omega (arith, asking));
    fits = λ h. ap cut word ∙ c.fits h ∙ sym word;
  }

  module _ (law : Lawful S) (ok : LawfulCounter S C) where
    cut-add : (x y : ℕ) → cut x ≡ cut y → (z : ℕ) → cut (x + z) ≡ cut (y + z)
    cut-add x y e z = sym (ok.cut_inside x z) ∙ ap (λ (n : ℕ). cut (n + z)) e ∙ ok.cut_inside y z

    module _ (st : State S) {n : ℕ} (L : Live S words st n) (c : Counted st) where
      -- ---- the oldest message of a queue leaves it
      module _ (p : ℕ) (m : Message S) (rest : List (Message S)) where
        abbrev without : ℕ → State S
        without s = with_requests S (update2 st.requests s p rest) st

        module _ (s : ℕ) (is : st.requests s p ≡ m ∷ rest) where
          fair-oldest : Fair s m
          fair-oldest = all_head (rw is at (c.fair s p))

          fair-without : (j q : ℕ) → All (Fair j) ((without s).requests j q)
          fair-without = update2-ind st.requests s p rest (λ j _ l. All (Fair j) l) (all_tail (rw is at (c.fair s p))) (λ j q _. c.fair j q)

          leaves-level : 0 < s → s ≤ k → under_way st ≡ under_way (without s) + brings m
          leaves-level i i' =
              under-way-more S C a (without s) st s p (brings m) i i'
              (omega (arith, law.place-below m.tag s, (oldest S words L.places st L.invariant s p m rest is).1.0))
              (rw (is, update2-same) (omega arith)) (λ j q d. sym (update2-other st.requests s p rest j q d))

        -- if it was at level 0 it is issued by that
        abbrev Leaves : ℕ → Type 0
        Leaves s = (new : ℕ) × (under_way (without s) + brings m ≡ under_way st + new) × (issued (without s) ≡ issued st + new)

        leaves : (s : ℕ) → st.requests s p ≡ m ∷ rest → s < k → Leaves s
        leaves zero is i =
            let front = oldest S words L.places st L.invariant 0 p m rest is in
            let own = sym (law.place-engine m.tag) ∙ front.1.0 in
            let known : m.tag < R = L.held.known m.tag (omega (arith, front.0)) in
            let once = oldest-rest S words L.places st L.invariant 0 p m rest is in
            let asks : brings (asked S m.tag) ≡ brings m = ap brings (sym ((fair-oldest 0 is).1 refl)) in
            let moving = under-way-same S C a st (without 0) (λ s q. update2-level st.requests 0 p rest (suc s) q (omega arith)) in
            let asking =
            issued-one S C a st (without 0) p m rest is (update2-same st.requests 0 p rest)
            (λ e d. update2-position st.requests 0 p rest 0 e d) own known once in
            (brings m, omega (arith, moving), omega (arith, asking, asks))
        leaves (suc s) is i =
            let asking = issued-same S C a st (without (suc s)) (λ e. update2-level st.requests (suc s) p rest 0 e (omega arith)) in
            (0, omega (arith, leaves-level (suc s) is (omega arith) (omega arith)), omega (arith, asking))

      -- ---- and goes on to the next queue, which has then what it brings besides
      module _ (s p : ℕ) (m : Message S) (rest : List (Message S)) (lt : s < k) (is : st.requests s p ≡ m ∷ rest) where
        abbrev to : ℕ
        to = place S m.tag (suc s)

        abbrev left : ℕ → ℕ → List (Message S)
        left = update2 st.requests s p rest

        -- the state in which the next queue is that
        abbrev with : List (Message S) → State S
        with queue = with_requests S (update2 left (suc s) to queue) st

        next-queue : (queue : List (Message S)) → under_way (with queue) ≡ under_way (with []) + in_queue queue
        next-queue queue =
            under-way-more S C a (with []) (with queue) (suc s) to (in_queue queue) (omega arith) lt (law.place-below m.tag (suc s))
            (rw (update2-same, update2-same) (omega arith))
            (λ j q d. update2-other left (suc s) to queue j q d ∙ sym (update2-other left (suc s) to [] j q d))

        before-queue : under_way (without p m rest s) ≡ under_way (with []) + in_queue (st.requests (suc s) to)
        before-queue =
            ap (λ f. under_way (with_requests S f st)) (sym (update2-idle left (suc s) to)) ∙ next-queue (left (suc s) to)
            ∙ ap (λ (l : List (Message S)). under_way (with []) + in_queue l) (update2-level st.requests s p rest (suc s) to (omega arith))

        sent : (queue : List (Message S)) → All (Fair (suc s)) queue → cut (in_queue queue) ≡ cut (in_queue (st.requests (suc s) to) + brings m)
            → Counted (with queue)
        sent queue h same = record {
          fair = update2-ind left (suc s) to queue (λ j _ l. All (Fair j) l) h (λ j q _. fair-without p m rest s is j q);
          balance =
              let z = leaves p m rest s is lt in
              let asking = issued-same S C a (without p m rest s) (with queue) (λ e. update2-level left (suc s) to queue 0 e (omega arith)) in
              ap cut (omega (arith, next-queue queue))
              ∙ cut-add (in_queue queue) (in_queue (st.requests (suc s) to) + brings m) same (number (st.words a) + under_way (with []))
              ∙ ap cut (omega (arith, before-queue, z.1))
              ∙ cut-add (number (st.words a) + under_way st) (number (words a) + issued st) c.balance z.0
              ∙ ap cut (omega (arith, asking, z.2));
          fits = c.fits;
        }

        append-counted : Counted (with (st.requests (suc s) to ++ (m ∷ [])))
        append-counted =
            sent (st.requests (suc s) to ++ (m ∷ [])) (all_more (c.fair (suc s) to) ((fair-oldest p m rest s is).0, λ e. absurd (omega arith)))
            (ap cut (omega (arith, total-append brings (st.requests (suc s) to) (m ∷ []))))

        module _ (older : List (Message S)) (f : Message S) (younger : List (Message S)) (o : Operation)
            (parts : st.requests (suc s) to ≡ older ++ (f ∷ younger)) (one : f.address ≡ m.address)
            (merges : merge f.operation m.operation ≡ Some o) where
          abbrev now : Message S
          now = record { tag = f.tag; address = f.address; operation = o }

          next-fair : All (Fair (suc s)) (older ++ (f ∷ younger))
          next-fair = rw parts at (c.fair (suc s) to)

          two-in-one : f.address ≡ a → (is_load_or_add o ≡ true) × (cut (operand o) ≡ cut (operand f.operation + operand m.operation))
          two-in-one e =
              ok.merges f.operation m.operation o ((all_head (all_right older next-fair)).0 e) ((fair-oldest p m rest s is).0 (sym one ∙ e)) merges

          brings-both : cut (brings now) ≡ cut (brings f + brings m)
          brings-both = by_cases (ℕ_discrete f.address a)
              (λ (e : f.address ≡ a).
              ap cut (octets-here S C a now e) ∙ (two-in-one e).1 ∙ ap cut (omega (arith, octets-here S C a f e, octets-here S C a m (sym one ∙ e))))
              (λ (n : f.address ≢ a).
              ap cut (omega (arith, octets-elsewhere S C a now n, octets-elsewhere S C a f n, octets-elsewhere S C a m (λ e. n (one ∙ e)))))

          merge-counted : Counted (with (older ++ (now ∷ younger)))
          merge-counted =
              sent (older ++ (now ∷ younger))
              (all_append (all_left older (f ∷ younger) next-fair)
              (cons ((λ e. (two-in-one e).0), (λ e. absurd (omega arith))) (all_tail (all_right older next-fair))))
              (ap cut (omega (arith, total-append brings older (now ∷ younger)))
              ∙ cut-add (brings now) (brings f + brings m) brings-both (in_queue older + in_queue younger)
              ∙ ap cut (omega (arith, ap in_queue parts, total-append brings older (f ∷ younger))))

      -- ---- or a module takes it: what it brings goes to the word
      module _ (p : ℕ) (m : Message S) (rest : List (Message S)) (is : st.requests k p ≡ m ∷ rest) where
        abbrev after : State S
        after = taken S st p m rest

        served : cut (number (after.words a)) ≡ cut (number (st.words a) + brings m)
            → (cut (number (words a)) ≡ number (words a) → cut (number (after.words a)) ≡ number (after.words a)) → Counted after
        served e fits = record {
          fair = fair-without p m rest k is;
          balance =
              let above : 0 ≢ k = omega (arith, law.levels) in
              let moving = under-way-same S C a (without p m rest k) after (λ s q. refl) in
              let asking = issued-same S C a st after (λ e. update2-level st.requests k p rest 0 e above) in
              cut-add (number (after.words a)) (number (st.words a) + brings m) e (under_way after)
              ∙ ap cut (omega (arith, moving, leaves-level p m rest k is law.levels (omega arith)))
              ∙ c.balance
              ∙ ap cut (omega (arith, asking));
          fits = fits;
        }

        serve-counted : Counted after
        serve-counted = by_cases (ℕ_discrete m.address a)
            (λ (e : m.address ≡ a).
            let counts = (fair-oldest p m rest k is).0 e in
            let here : after.words a ≡ apply m.operation (st.words a) = rw (e, update_same) in
            served (rw here (ok.adds m.operation counts (st.words a) ∙ ap cut (omega (arith, octets-here S C a m e))))
            (λ h. rw here (ok.keeps m.operation counts (st.words a) (c.fits h))))
            (λ (n : m.address ≢ a).
            let here : after.words a ≡ st.words a = update_other st.words m.address _ (λ e. n (sym e)) in
            served (rw here (ap cut (omega (arith, octets-elsewhere S C a m n)))) (λ h. rw here (c.fits h)))

    -- ---- so every move keeps it
    move-counted : (st st' : State S) → Move S st st' → {n : ℕ} → Live S words st n → Counted st → Counted st'
    unfolding collect_oldest
    move-counted st st' (appending s p m rest lt is) L c = alike _ st' (λ s p. refl) refl (append-counted st L c s p m rest lt is)
    move-counted st st' (merging s p m rest older f younger o lt is parts one last merges) L c =
        alike _ st' (λ s p. refl) refl (merge-counted st L c s p m rest lt is older f younger o parts one merges)
    move-counted st st' (serving p m rest is) L c = serve-counted st L c p m rest is
    move-counted st st' (answering s p t rest older r younger is parts of) L c = alike st st' (λ s p. refl) refl c
    move-counted st st' (lowering s p t rest is free) L c = alike st st' (λ s p. refl) refl c
    move-counted st st' (collecting e t rest is) L c = alike st st' (λ s p. refl) refl c

    -- ---- and it holds at the start, where nothing is under way and nothing is issued
    module _ (only : LoadsAndAdds S C a) where
      fair-asked : (e : ℕ) (m : Message S) → Asked S (λ t. t < R) e m → Fair 0 m
      fair-asked e m (known, _, is) =
          let address = ap (λ (x : Message S). x.address) is in
          ((λ e. ap (λ (x : Message S). is_load_or_add x.operation) is ∙ only m.tag known (sym address ∙ e)), λ _. is)

      start-counted : Counted (start S words)
      unfolding start unissued
      start-counted = record {
        fair = elim [ zero ↦ λ p. all_map (fair-asked p) (asked-all S p (all-below R (λ t. t) (λ t l. l))) | suc s ↦ λ p. nil ];
        balance = ap cut (omega (arith, under-way-none S C a (start S words) (λ s p. refl), issued-none S C a words));
        fits = λ h. h;
      }

      -- ---- at every moment
      module _ (acts : List Act) (named : All (Named k) acts) where
        abbrev CountedLive : State S → Type 0
        CountedLive st = Live S words st (R * (2 * k + 2)) × Counted st

        every-counted : All CountedLive (moments S acts (start S words))
        every-counted = every-moment S law CountedLive
            (step_keeps S law CountedLive (λ x y m h. (move-keeps-live S law words (R * (2 * k + 2)) x y m h.0, move-counted x y m h.0 h.1)))
            acts named (start S words) (start-live S law words, start-counted)

        pub accounted : All (Accounted S C words a) (moments S acts (start S words))
        accounted = all_map (λ st h. h.1.balance) every-counted

        -- where none is unanswered no message is left, so all that was asked is in the word
        pub settled : cut (number (words a)) ≡ number (words a) → All (λ st. all_answered S st ≡ true → Settled S C words a st) (moments S acts (start S words))
        settled fits = all_map
            (λ st h answered.
            let empty = answered-empty S st (R * (2 * k + 2)) answered h.0 in
            sym (h.1.fits fits) ∙ ap cut (omega (arith, under-way-none S C a st (λ s p. empty (suc s) p))) ∙ h.1.balance
            ∙ ap cut (omega (arith, issued-all S C a st (empty 0))))
            every-counted

-- the order's sentence, of "traces of loads and adds only": then it holds of every address
pub loads-and-adds-only : (S : Setup) (C : Counter S.Word S.Operation) → Lawful S → LawfulCounter S C
    → ((t : ℕ) → t < S.R → C.is_load_or_add (S.operation_of t) ≡ true) → (words : ℕ → S.Word) (acts : List Act) → All (Named S.k) acts
    → (a : ℕ) → All (Accounted S C words a) (moments S acts (start S words))
loads-and-adds-only S C law ok only words acts named a = accounted S C words a law ok (λ t l _. only t l) acts named
