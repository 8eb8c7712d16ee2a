-- What holds of every state that a run reaches, besides demand 3: what a program that keeps the state in memory may rely on.
use Prim.Native.Nat.{ℕ, suc, ◌+◌, ◌*◌, ◌≤◌}
use mathlib.Core.List.{List}
use native.Mathlib.Omega.{arith}
use lib.ListN.{length, length-append}
use Rattle.lists.specs.Search.{All}
use Rattle.lists.proofs.Every.{all_map}
use Rattle.event.specs.Event.{Event}
use Rattle.machine.specs.Setup.{Setup}
use Rattle.machine.specs.State.{State, start, stands_for}
use Rattle.machine.specs.Steps.{collect_oldest}
use Rattle.machine.specs.Run.{run_events, drain_run}
use Rattle.machine.specs.Inner.Sound.{Sound}
use Rattle.machine.specs.Inner.Lawful.{Lawful}
use Rattle.machine.proofs.Moves.{Move, appending, merging, serving, answering, lowering, collecting}
use Rattle.machine.proofs.Progress.{Live, move_live}
use Rattle.machine.proofs.Start.{start-live}
use Rattle.machine.proofs.StepsMove.{step_keeps}
use Rattle.machine.proofs.Moments.{Fits, after-events}
use Rattle.machine.proofs.Drain.{events-live, drain-live}
use Rattle.machine.proofs.Ordered.{order-length}
use Rattle.machine.proofs.OnePlace.{live-place}
use Rattle.machine.proofs.StepCounts.{stands-some}

-- ---- the two counts, at a move
module _ (S : Setup) where
  open S use {k}

  move-merges : {a b : State S} → Move S a b → b.merges ≤ suc a.merges
  unfolding collect_oldest
  move-merges (appending s p m rest lt is) = omega arith
  move-merges (merging s p m rest older f younger o lt is parts same last merges) = omega arith
  move-merges (serving p m rest is) = omega arith
  move-merges (answering s p t rest older r younger is parts of) = omega arith
  move-merges (lowering s p t rest is free) = omega arith
  move-merges (collecting e t rest is) = omega arith

  move-accesses : {a b : State S} → Move S a b → a.accesses ≤ length a.order → b.accesses ≤ length b.order
  unfolding collect_oldest
  move-accesses (appending s p m rest lt is) h = h
  move-accesses (merging s p m rest older f younger o lt is parts same last merges) h = h
  move-accesses {a} (serving p m rest is) h = omega (arith, length-append a.order (stands_for S a.waits k m.tag), stands-some S a.waits k m.tag)
  move-accesses (answering s p t rest older r younger is parts of) h = h
  move-accesses (lowering s p t rest is free) h = h
  move-accesses (collecting e t rest is) h = h

-- ---- the counts are few: each move takes one from what is left, and adds one merge at most
module _ (S : Setup) (words : ℕ → S.Word) where
  open S use {k, R}

  record Spent (st : State S) : Type 0 where
    remains : ℕ
    live : Live S words st remains
    few_merges : st.merges + remains ≤ R * (2 * k + 2)
    few_accesses : st.accesses ≤ length st.order

module _ (S : Setup) (law : Lawful S) (words : ℕ → S.Word) where
  open S use {k, R}

  move-spent : (a b : State S) → Move S a b → Spent S words a → Spent S words b
  move-spent a b m P = let z = move_live S law words m P.remains P.live in record {
    remains = z.0;
    live = z.2;
    few_merges = omega (arith, z.1, move-merges S m, P.few_merges);
    few_accesses = move-accesses S m P.few_accesses;
  }

  start-spent : Spent S words (start S words)
  unfolding start
  start-spent = record { remains = R * (2 * k + 2); live = start-live S law words; few_merges = omega arith; few_accesses = omega arith }

  spent-sound : (st : State S) → Spent S words st → Sound S st
  spent-sound st P = record {
    one_place = live-place S words st P.live;
    addresses = λ s p. all_map (λ m h. h.1.3) (P.live.invariant.requested s p);
    room = short;
    next = λ p m rest is.
        let z = move_live S law words (serving p m rest is) P.remains P.live in
        omega (arith, order-length S words z.2.places _ z.2.invariant, length-append st.order (stands_for S st.waits k m.tag));
    accesses = omega (arith, P.few_accesses, short);
    merges = omega (arith, P.few_merges);
  }
    where
      short : length st.order ≤ R
      short = order-length S words P.live.places st P.live.invariant

module _ (S : Setup) (law : Lawful S) (words : ℕ → S.Word) where
  open S use {k, R}

  -- a drain from any state that events reach runs few rounds
  pub drain-from : (es : List Event) → All (Fits S) es → (n c : ℕ)
      → (drain_run S n (record { state = run_events S es (start S words); rounds = c })).rounds ≤ c + R * (2 * k + 2)
  drain-from es fit n c =
      let bound = R * (2 * k + 2) in
      let live = events-live S law words fit (start S words) bound (start-live S law words) in
      omega (arith, (drain-live S law words n bound (record { state = run_events S es (start S words); rounds = c }) live).1)

pub sound : (S : Setup) → Lawful S → (words : ℕ → S.Word) (es : List Event) → All (Fits S) es → Sound S (run_events S es (start S words))
sound S law words es fit =
    spent-sound S law words (run_events S es (start S words))
    (after-events S (Spent S words) (step_keeps S law (Spent S words) (move-spent S law words)) fit (start S words) (start-spent S law words))
