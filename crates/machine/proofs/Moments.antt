-- A run of events and drains is the run of its events, each drain written out. And the one induction over runs: what holds at the start and is
-- kept by each step holds at every moment.
use Prim.Native.Nat.{ℕ, zero, suc}
use mathlib.Core.Path.{◌≡◌, refl, sym, ◌∙◌, ap}
use mathlib.Core.Bool.{true, false}
use mathlib.Core.List.{List, [], ◌∷◌, ◌++◌}
use Rattle.lists.specs.Search.{All, nil, cons, InTurn, ended, next, final}
use Rattle.lists.proofs.Tests.{test-cases}
use Rattle.lists.proofs.Every.{all_append}
use Rattle.event.specs.Event.{Event, Act, event, drain, level_fits}
use Rattle.machine.specs.Setup.{Setup}
use Rattle.machine.specs.State.{State}
use Rattle.machine.specs.Steps.{step}
use Rattle.machine.specs.Run.{round, run_events, all_answered, Ran, drain_run, run_act, run_acts, drain_events, events_of, after_each, moments}
use Rattle.machine.specs.Order.{Named}
use Rattle.machine.specs.Inner.Lawful.{Lawful}
use Rattle.machine.proofs.Rounds.{round-fits}

module _ (S : Setup) where
  open S use {k, N}

  -- ---- the events of a run
  pub events-append : (xs ys : List Event) (st : State S) → run_events S (xs ++ ys) st ≡ run_events S ys (run_events S xs st)
  unfolding run_events
  events-append [] ys st = refl
  events-append (e ∷ xs) ys st = events-append xs ys (step S e st)

  drain-events : (n : ℕ) (r : Ran S) → (drain_run S n r).state ≡ run_events S (drain_events S n r.state) r.state
  unfolding drain_run drain_events run_events
  drain-events zero r = refl
  drain-events (suc n) r = test-cases
      (λ b. let after : Ran S = elim b [ true ↦ r | false ↦ drain_run S n (record { state = run_events S (round k N) r.state; rounds = suc r.rounds }) ] in
      after.state ≡ run_events S (elim b [ true ↦ [] | false ↦ round k N ++ drain_events S n (run_events S (round k N) r.state) ]) r.state)
      (all_answered S r.state) (λ _. refl)
      (λ _.
      let after = run_events S (round k N) r.state in
      drain-events n (record { state = after; rounds = suc r.rounds }) ∙ sym (events-append (round k N) (drain_events S n after) r.state))

  pub acts-append : (xs ys : List Act) (r : Ran S) → run_acts S (xs ++ ys) r ≡ run_acts S ys (run_acts S xs r)
  unfolding run_acts
  acts-append [] ys r = refl
  acts-append (a ∷ xs) ys r = acts-append xs ys (run_act S a r)

  -- the state after a run is the state after its events
  pub acts-events : (acts : List Act) (r : Ran S) → (run_acts S acts r).state ≡ run_events S (events_of S acts r.state) r.state
  unfolding run_acts run_act events_of run_events
  acts-events [] r = refl
  acts-events (event e ∷ as') r = acts-events as' (record { state = step S e r.state; rounds = r.rounds })
  acts-events (drain n ∷ as') r =
      acts-events as' (drain_run S n r) ∙ ap (λ (st : State S). run_events S (events_of S as' st) st) (drain-events n r)
      ∙ sym (events-append (drain_events S n r.state) (events_of S as' (run_events S (drain_events S n r.state) r.state)) r.state)

  pub after-final : (es : List Event) (st : State S) → final st (after_each S es st) ≡ run_events S es st
  unfolding after_each run_events
  after-final [] st = refl
  after-final (e ∷ es) st = after-final es (step S e st)

  -- an event that names a step at a level it has
  abbrev pub Fits : Event → Type 0
  Fits e = level_fits k e.what e.level ≡ true

  module _ (law : Lawful S) where
    drain-fits : (n : ℕ) (st : State S) → All Fits (drain_events S n st)
    unfolding drain_events
    drain-fits zero st = nil
    drain-fits (suc n) st = test-cases (λ b. All Fits (elim b [ true ↦ [] | false ↦ round k N ++ drain_events S n (run_events S (round k N) st) ]))
        (all_answered S st) (λ _. nil) (λ _. all_append (round-fits k N law.levels) (drain-fits n (run_events S (round k N) st)))

    pub acts-fit : (acts : List Act) → All (Named k) acts → (st : State S) → All Fits (events_of S acts st)
    unfolding events_of
    acts-fit [] f st = nil
    acts-fit (event e ∷ as') (cons f fs) st = cons f (acts-fit as' fs (step S e st))
    acts-fit (drain n ∷ as') (cons f fs) st = all_append (drain-fits n st) (acts-fit as' fs (run_events S (drain_events S n st) st))

  -- ---- what each step keeps, by an event of some kind F
  abbrev pub Kept : (Event → Type 0) → (State S → Type 0) → Type 0
  Kept F P = (e : Event) → F e → (st : State S) → P st → P (step S e st)

  module _ {F : Event → Type 0} (P : State S → Type 0) (kept : Kept F P) where
    pub after-each : {es : List Event} → All F es → (st : State S) → P st → All P (after_each S es st)
    unfolding after_each
    after-each nil st h = nil
    after-each (cons {x = e} f fs) st h = cons (kept e f st h) (after-each fs (step S e st) (kept e f st h))

    pub after-events : {es : List Event} → All F es → (st : State S) → P st → P (run_events S es st)
    unfolding run_events
    after-events nil st h = h
    after-events (cons {x = e} f fs) st h = after-events fs (step S e st) (kept e f st h)

    -- what holds between a state and each that comes after it, by what is kept, holds between every two
    pub every_two : (T : State S → State S → Type 0) → ((st : State S) → P st → (es : List Event) → All F es → All (T st) (after_each S es st))
        → {es : List Event} → All F es → (st : State S) → P st → InTurn T (st ∷ after_each S es st)
    unfolding after_each
    every_two T later nil st h = next nil ended
    every_two T later (cons {x = e} {xs = es} f fs) st h = next (later st h (e ∷ es) (cons f fs)) (every_two T later fs (step S e st) (kept e f st h))

  -- what each step of an event that fits keeps holds at every moment, and after the run; what each move keeps each step keeps
  -- (`step_Keeps`), so a new invariant is one application of this
  module _ (law : Lawful S) (P : State S → Type 0) (kept : Kept Fits P) (acts : List Act) (named : All (Named k) acts) where
    pub every-moment : (st : State S) → P st → All P (moments S acts st)
    unfolding moments
    every-moment st h = cons h (after-each P kept (acts-fit law acts named st) st h)

    pub after-acts : (r : Ran S) → P r.state → P (run_acts S acts r).state
    after-acts r h = rw (acts-events acts r) (after-events P kept (acts-fit law acts named r.state) r.state h)
