-- A round in which nothing moves leaves nothing to do; so rounds are few, and a drain that is allowed enough of them answers all.
use Prim.Native.Nat.{ℕ, zero, suc, ◌+◌, ◌-◌, ◌*◌, ◌≤◌, ◌<◌}
use mathlib.Core.Path.{◌≡◌, refl, ap}
use mathlib.Core.Logic.{◌⊎◌, inl, inr}
use mathlib.Core.Bool.{true, false}
use mathlib.Core.List.{List, [], ◌∷◌}
use native.Mathlib.Decide.{dec_lt, ℕ_discrete}
use native.Mathlib.Omega.{arith}
use lib.ListN.{length}
use Rattle.lists.specs.Search.{All, nil, cons}
use Rattle.lists.specs.Count.{total_below}
use Rattle.lists.proofs.Tests.{by_cases, test-cases, test-clash, both_true}
use Rattle.lists.proofs.Counts.{element}
use Rattle.lists.proofs.Every.{all-empty}
use Rattle.event.specs.Event.{Event, Act, event, drain}
use Rattle.machine.specs.Setup.{Setup, place}
use Rattle.machine.specs.State.{State}
use Rattle.machine.specs.Steps.{step}
use Rattle.machine.specs.Run.{round, run_events, is_answered, answered_below, all_answered, Ran, drain_run, run_act, run_acts}
use Rattle.machine.specs.Order.{Named}
use Rattle.machine.specs.Inner.Lawful.{Lawful}
use Rattle.machine.proofs.Tags.{waiter_tag}
use Rattle.machine.proofs.Invariant.{Invariant, Above}
use Rattle.machine.proofs.Places.{Spot, at_end, at_request, at_wait, at_reply, wait-level, remaining-none, left, Held}
use Rattle.machine.proofs.Moves.{Move}
use Rattle.machine.proofs.Progress.{Live, live_more, move_live}
use Rattle.machine.proofs.StepsMove.{Does, idle, moved, Stuck, nothing, full, Why, step-does, step_keeps}
use Rattle.machine.proofs.Rounds.{round-fits, round-collects, round-returns, round-modules, round-forwards, round-issues}
use Rattle.machine.proofs.Moments.{Fits, Kept, after-events}

module _ (S : Setup) where
  open S use {k, N, R}

  -- ---- every request is answered
  answered-below : (st : State S) (n : ℕ) → ((t : ℕ) → t < n → is_answered S (st.answers t) ≡ true) → answered_below S n st ≡ true
  unfolding answered_below
  answered-below st zero h = refl
  answered-below st (suc n) h = rw (h n (omega arith)) (answered-below st n (λ t l. h t (omega arith)))

  pub below-answered : (st : State S) (n : ℕ) → answered_below S n st ≡ true → (t : ℕ) → t < n → is_answered S (st.answers t) ≡ true
  unfolding answered_below
  below-answered st zero h t l = absurd (omega arith)
  below-answered st (suc n) h t l = by_cases (ℕ_discrete t n)
      (λ (e : t ≡ n). rw e (both_true (is_answered S (st.answers n)) (answered_below S n st) h).0)
      (λ (m : ¬ (t ≡ n)). below-answered st n (both_true (is_answered S (st.answers n)) (answered_below S n st) h).1 t (omega arith))

  -- ---- where no move is left every request is answered
  none-remains : {places : ℕ → ℕ} {st : State S} → Held S places st → (n : ℕ) → left S places n ≤ 0 → (t : ℕ) → t < n → places t ≡ 3
  unfolding total_below
  none-remains H zero h t l = absurd (omega arith)
  none-remains {places} H (suc n) h t l = by_cases (ℕ_discrete t n)
      (λ (e : t ≡ n). rw e (remaining-none S (places n) (omega arith) (H.spot n)))
      (λ (m : ¬ (t ≡ n)). none-remains H n (omega arith) t (omega arith))

  none_left : {words : ℕ → S.Word} (st : State S) → Live S words st 0 → all_answered S st ≡ true
  none_left st L = answered-below st R (λ t l. L.held.in_answers t (none-remains L.held R L.bound t l) l)

  -- ---- a drain stops, or runs one round and goes on
  abbrev after_round : Ran S → Ran S
  after_round r = record { state = run_events S (round k N) r.state; rounds = suc r.rounds }

  drain-cases : (P : Ran S → Type 0) (n : ℕ) (r : Ran S) → (all_answered S r.state ≡ true → P r)
      → (all_answered S r.state ≡ false → P (drain_run S n (after_round r))) → P (drain_run S (suc n) r)
  unfolding drain_run
  drain-cases P n r f g = test-cases (λ b. P (elim b [ true ↦ r | false ↦ drain_run S n (after_round r) ])) (all_answered S r.state) f g

  module _ (law : Lawful S) (words : ℕ → S.Word) where
    -- ---- a round in which nothing moves
    unstick : {A B : Type 0} {here : List A} {next : ℕ → List B} → Stuck S here next → ((q : ℕ) → next q ≡ []) → here ≡ []
    unstick (nothing e) h = e
    unstick (full q l) h = absurd (omega (arith, l, ap length (h q), law.room))

    module _ (st : State S) (places : ℕ → ℕ) (I : Invariant S words places st) (H : Held S places st) (idle-all : All (λ e. Why S e st) (round k N)) where
      outside-replies : (s q : ℕ) → ¬ (q < N) → st.replies s q ≡ []
      outside-replies s q n = all-empty (λ r h. n (omega (arith, law.place-below r.tag s, h.1.0))) (I.replying s q)

      outside-requests : (s q : ℕ) → ¬ (q < N) → st.requests s q ≡ []
      outside-requests s q n = all-empty (λ m h. n (omega (arith, law.place-below m.tag s, h.1.0))) (I.requested s q)

      return-idle : (s q : ℕ) → s < k → q < N → Stuck S (st.replies (suc s) q) (st.replies s)
      return-idle s q l i = let z : suc s - 1 ≡ s = omega arith in rw z at (round-returns k N idle-all q i s l)

      -- replies from level 0 up
      no-replies : (s : ℕ) → s ≤ k → (q : ℕ) → st.replies s q ≡ []
      no-replies zero l q = by_cases (dec_lt q N) (λ (i : q < N). round-collects k N idle-all q i) (outside-replies 0 q)
      no-replies (suc s) l q = by_cases (dec_lt q N) (λ (i : q < N). unstick (return-idle s q l i) (no-replies s (omega arith))) (outside-replies (suc s) q)

      -- requests from level k down
      no-requests-modules : (q : ℕ) → st.requests k q ≡ []
      no-requests-modules q =
          by_cases (dec_lt q N) (λ (i : q < N). unstick (round-modules k N idle-all q i) (λ _. no-replies k (omega arith) q)) (outside-requests k q)

      forward-idle : (s q : ℕ) → s < k → q < N → Stuck S (st.requests s q) (st.requests (suc s))
      forward-idle zero q l i = round-issues k N idle-all q i
      forward-idle (suc s) q l i = round-forwards k N idle-all q i s l

      no-requests : (d s : ℕ) → s + d ≡ k → (q : ℕ) → st.requests s q ≡ []
      no-requests zero s e q = let z : s ≡ k = omega arith in rw z (no-requests-modules q)
      no-requests (suc d) s e q =
          by_cases (dec_lt q N) (λ (i : q < N). unstick (forward-idle s q (omega arith) i) (no-requests d (suc s) (omega arith))) (outside-requests s q)

      -- whoever waits, waits for one that waits further up
      waits-for : (n : ℕ) → ((u s : ℕ) → places u ≡ 4 * suc s + 1 → k ≤ s + n → ⊥) → (s : ℕ) → k ≤ s + suc n → (f : ℕ) → Above (suc s) (places f)
          → Spot S (places f) → ⊥
      waits-for n further s l f ab (at_end h) = omega arith
      waits-for n further s l f ab (at_request s' i h) = omega (arith, rw (no-requests (k - s') s' (omega arith) (place S f s')) at (H.in_requests f s' h))
      waits-for n further s l f ab (at_wait s' i h) = further f s' h (omega arith)
      waits-for n further s l f ab (at_reply s' i h) = omega (arith, rw (no-replies s' i (place S f s')) at (H.in_replies f s' h))

      no-waits : (n u s : ℕ) → places u ≡ 4 * suc s + 1 → k ≤ s + n → ⊥
      no-waits zero u s e l = omega (arith, wait-level S s e (H.spot u))
      no-waits (suc n) u s e l =
          let z = element (waiter_tag S) u (I.waiting (suc s) (place S u (suc s))) (H.in_waits u (suc s) e) in
          waits-for n (no-waits n) s l z.0.first z.1.1.1 (H.spot z.0.first)

      at-end : (u : ℕ) → Spot S (places u) → places u ≡ 3
      at-end u (at_end h) = h
      at-end u (at_request s i h) = absurd (omega (arith, rw (no-requests (k - s) s (omega arith) (place S u s)) at (H.in_requests u s h)))
      at-end u (at_wait s i h) = absurd (no-waits k u s h (omega arith))
      at-end u (at_reply s i h) = absurd (omega (arith, rw (no-replies s i (place S u s)) at (H.in_replies u s h)))

      idle-answered : all_answered S st ≡ true
      idle-answered = answered-below st R (λ t l. H.in_answers t (at-end t (H.spot t)) l)

    -- ---- a list of events lowers what is left, or each of them is idle
    pub move-keeps-live : (n : ℕ) (a b : State S) → Move S a b → Live S words a n → Live S words b n
    move-keeps-live n a b m L = let z = move_live S law words m n L in live_more S words n (omega (arith, z.1)) z.2

    pub step-keeps-live : (n : ℕ) → Kept S (Fits S) (λ st. Live S words st n)
    step-keeps-live n = step_keeps S law (λ st. Live S words st n) (move-keeps-live n)

    pub events-live : {es : List Event} → All (Fits S) es → (st : State S) (n : ℕ) → Live S words st n → Live S words (run_events S es st) n
    events-live fs st n = after-events S (λ x. Live S words x n) (step-keeps-live n) fs st

    events-fall : (es : List Event) → All (Fits S) es → (st : State S) (n : ℕ) → Live S words st (suc n)
        → Live S words (run_events S es st) n ⊎ All (λ e. Why S e st) es
    unfolding run_events
    events-fall [] f st n L = inr nil
    events-fall (e ∷ es) (cons f fs) st n L = joined (go (step S e st) (step-does S st law e f) (events-fall es fs st n L))
      where
        go : (st' : State S) → Does S (Why S e st) st st' → Live S words (run_events S es st) n ⊎ All (λ e. Why S e st) es
            → Live S words (run_events S es st') n ⊎ (Why S e st × All (λ e. Why S e st) es)
        go st' (idle w) (inl x) = inl x
        go st' (idle w) (inr x) = inr (w, x)
        go st' (moved m) x = let z = move_live S law words m (suc n) L in inl (events-live fs st' n (live_more S words n (omega (arith, z.1)) z.2))

        joined : Live S words (run_events S es (step S e st)) n ⊎ (Why S e st × All (λ e. Why S e st) es)
            → Live S words (run_events S es (step S e st)) n ⊎ All (λ e. Why S e st) (e ∷ es)
        joined (inl x) = inl x
        joined (inr x) = inr (cons x.0 x.1)

    round-live : (st : State S) (n : ℕ) → all_answered S st ≡ false → Live S words st (suc n) → Live S words (run_events S (round k N) st) n
    round-live st n unanswered L = go (events-fall (round k N) (round-fits k N law.levels) st n L)
      where
        go : Live S words (run_events S (round k N) st) n ⊎ All (λ e. Why S e st) (round k N) → Live S words (run_events S (round k N) st) n
        go (inl x) = x
        go (inr x) = test-clash (idle-answered st L.places L.invariant L.held x) unanswered

    -- ---- drains
    -- the rounds run come off what is left
    pub drain-live : (n b : ℕ) (r : Ran S) → Live S words r.state b
        → (b' : ℕ) × ((drain_run S n r).rounds + b' ≤ r.rounds + b) × Live S words (drain_run S n r).state b'
    unfolding drain_run
    drain-live zero b r L = (b, omega arith, L)
    drain-live (suc n) zero r L = drain-cases (λ x. (b' : ℕ) × (x.rounds + b' ≤ r.rounds + 0) × Live S words x.state b') n r
        (λ _. (0, omega arith, L)) (λ e. test-clash (none_left r.state L) e)
    drain-live (suc n) (suc b) r L = drain-cases (λ x. (b' : ℕ) × (x.rounds + b' ≤ r.rounds + suc b) × Live S words x.state b') n r
        (λ _. (suc b, omega arith, L)) (λ e. let z = drain-live n b (after_round r) (round-live r.state b e L) in (z.0, omega (arith, z.1), z.2))

    -- a drain allowed as many rounds as there are moves left answers all
    pub drain-answers : (n b : ℕ) (r : Ran S) → Live S words r.state b → b ≤ n → all_answered S (drain_run S n r).state ≡ true
    unfolding drain_run
    drain-answers zero zero r L l = none_left r.state L
    drain-answers zero (suc b) r L l = absurd (omega arith)
    drain-answers (suc n) zero r L l = drain-cases (λ x. all_answered S x.state ≡ true) n r (λ e. e) (λ e. test-clash (none_left r.state L) e)
    drain-answers (suc n) (suc b) r L l =
        drain-cases (λ x. all_answered S x.state ≡ true) n r (λ e. e) (λ e. drain-answers n b (after_round r) (round-live r.state b e L) (omega arith))

    -- the rounds of all drains come off what is left
    pub acts-live : (acts : List Act) → All (Named k) acts → (b : ℕ) (r : Ran S) → Live S words r.state b
        → (b' : ℕ) × ((run_acts S acts r).rounds + b' ≤ r.rounds + b) × Live S words (run_acts S acts r).state b'
    unfolding run_acts run_act
    acts-live [] f b r L = (b, omega arith, L)
    acts-live (event e ∷ as') (cons f fs) b r L =
        acts-live as' fs b (record { state = step S e r.state; rounds = r.rounds }) (step-keeps-live b e f r.state L)
    acts-live (drain n ∷ as') (cons f fs) b r L =
        let z = drain-live n b r L in
        let y = acts-live as' fs z.0 (drain_run S n r) z.2 in
        (y.0, omega (arith, z.1, y.1), y.2)
