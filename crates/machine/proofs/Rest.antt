-- Once every request is answered nothing moves any more: a program may leave out what follows.
use Prim.Native.Nat.{ℕ, zero, suc, ◌+◌, ◌*◌, ◌≤◌, ◌<◌}
use mathlib.Core.Path.{◌≡◌, refl, ◌∙◌, ap}
use mathlib.Core.Bool.{true}
use mathlib.Core.List.{List, [], ◌∷◌, ◌++◌, Memᴰ}
use mathlib.Core.Option.{Option, none, some}
use native.Mathlib.Omega.{arith}
use Rattle.lists.specs.Search.{All, cons}
use Rattle.lists.proofs.Every.{all_tail, all_map, all_left, all_right, all-empty, member-split}
use Rattle.lists.proofs.Tests.{test-clash}
use Rattle.lists.proofs.Totals.{totals-none}
use Rattle.event.specs.Event.{Event, Act, event, drain}
use Rattle.machine.specs.Setup.{Setup}
use Rattle.machine.specs.State.{State, start}
use Rattle.machine.specs.Steps.{step}
use Rattle.machine.specs.Run.{run_events, is_answered, all_answered, Ran, drain_run, run_act, run_acts, moments}
use Rattle.machine.specs.Order.{Named, at_start}
use Rattle.machine.specs.Inner.Lawful.{Lawful}
use Rattle.machine.proofs.Moves.{Move}
use Rattle.machine.proofs.Places.{remaining, remaining-end}
use Rattle.machine.proofs.Progress.{Live, move_live}
use Rattle.machine.proofs.Start.{start-live}
use Rattle.machine.proofs.StepsMove.{step_keeps}
use Rattle.machine.proofs.Moments.{Fits, Kept, acts-append, every-moment, after-acts}
use Rattle.machine.proofs.Drain.{below-answered, events-live, drain-live, drain-answers, acts-live}

pub drain-rests : (S : Setup) (n : ℕ) (r : Ran S) → all_answered S r.state ≡ true → drain_run S n r ≡ r
unfolding drain_run
drain-rests S zero r h = refl
drain-rests S (suc n) r h = rw (h, drain_run)

module _ (S : Setup) where
  open S use {Word, R}

  -- ---- no move is left
  value_of : (o : Option Word) → is_answered S o ≡ true → (v : Word) × (o ≡ some v)
  value_of none h = test-clash h refl
  value_of (some v) h = (v, refl)

  module _ {words : ℕ → Word} (st : State S) (n : ℕ) (h : all_answered S st ≡ true) (L : Live S words st n) where
    at-end : (t : ℕ) → t < R → L.places t ≡ 3
    at-end t l = let z = value_of (st.answers t) (below-answered S st R h t l) in (L.invariant.collected t z.0 z.1).0

    answered-live : Live S words st 0
    answered-live = record {
      places = L.places;
      invariant = L.invariant;
      held = L.held;
      bound = omega (arith, totals-none R _ (λ t l. ap (remaining S) (at-end t l) ∙ remaining-end S));
    }

    -- and no message is left
    pub answered-empty : (s p : ℕ) → st.requests s p ≡ []
    answered-empty s p = all-empty
        (λ m z. let i : m.tag < R = L.held.known m.tag (omega (arith, z.0)) in omega (arith, z.0, at-end m.tag i)) (L.invariant.requested s p)

module _ (S : Setup) (law : Lawful S) (words : ℕ → S.Word) where
  open S use {k, R}

  -- every request is answered, and no move is left
  abbrev Done : State S → Type 0
  Done st = (all_answered S st ≡ true) × Live S words st 0

  answered-done : (st : State S) (n : ℕ) → Live S words st n → all_answered S st ≡ true → Done st
  answered-done st n L h = (h, answered-live S st n h L)

  -- ---- so no step moves anything
  no_move : {a b : State S} → Move S a b → Live S words a 0 → ⊥
  no_move m L = omega (arith, (move_live S law words m 0 L).1)

  stays-done : Kept S (Fits S) Done
  stays-done = step_keeps S law Done (λ a b m h. absurd (no_move m h.1))

  step-rests : (e : Event) → Fits S e → (st : State S) → Done st → step S e st ≡ st
  step-rests e f st h = (step_keeps S law (λ x. (x ≡ st) × Live S words x 0) (λ a b m z. absurd (no_move m z.1)) e f st (refl, h.1)).0

  act-rests : (a : Act) → Named k a → (r : Ran S) → Done r.state → run_act S a r ≡ r
  unfolding run_act
  act-rests (event e) f r h = ap (λ (st : State S). record { state = st; rounds = r.rounds }) (step-rests e f r.state h)
  act-rests (drain n) f r h = drain-rests S n r h.0

  all_rest : (acts : List Act) → All (Named k) acts → (r : Ran S) → Done r.state → run_acts S acts r ≡ r
  unfolding run_acts
  all_rest [] f r h = refl
  all_rest (a ∷ acts) (cons f fs) r h = ap (run_acts S acts) (act-rests a f r h) ∙ all_rest acts fs r h

  -- ---- from where events reach, or acts
  pub reached-rests : {es : List Event} → All (Fits S) es → all_answered S (run_events S es (start S words)) ≡ true
      → (acts : List Act) → All (Named k) acts → (c : ℕ)
      → let r : Ran S = record { state = run_events S es (start S words); rounds = c } in run_acts S acts r ≡ r
  reached-rests {es} fs h acts named c =
      let bound = R * (2 * k + 2) in
      let live = events-live S law words fs (start S words) bound (start-live S law words) in
      all_rest acts named (record { state = run_events S es (start S words); rounds = c }) (answered-done (run_events S es (start S words)) bound live h)

  module _ (acts : List Act) (named : All (Named k) acts) where
    abbrev ran : Ran S
    ran = run_acts S acts (at_start S words)

    abbrev moves-left : (b : ℕ) × (ran.rounds + b ≤ R * (2 * k + 2)) × Live S words ran.state b
    moves-left = let z = acts-live S law words acts named (R * (2 * k + 2)) (at_start S words) (start-live S law words) in (z.0, omega (arith, z.1), z.2)

    pub answered-rests : (more : List Act) → All (Named k) more → all_answered S ran.state ≡ true → run_acts S more ran ≡ ran
    answered-rests more named' h = all_rest more named' ran (answered-done ran.state moves-left.0 moves-left.2 h)

    -- ---- from the end of a drain that is allowed as many rounds as there are moves
    pub drain-answers-all : (n : ℕ) → R * (2 * k + 2) ≤ n → all_answered S (drain_run S n ran).state ≡ true
    drain-answers-all n enough = drain-answers S law words n moves-left.0 ran moves-left.2 (omega (arith, moves-left.1))

    drain-done : (n : ℕ) → R * (2 * k + 2) ≤ n → Done (drain_run S n ran).state
    drain-done n enough =
        let z = drain-live S law words n moves-left.0 ran moves-left.2 in
        answered-done (drain_run S n ran).state z.0 z.2 (drain-answers-all n enough)

  module _ (acts : List Act) (named : All (Named k) acts) (n : ℕ) (enough : R * (2 * k + 2) ≤ n) where
    module _ (before after : List Act) (is : acts ≡ before ++ (drain n ∷ after)) where
      named-before : All (Named k) before
      named-before = all_left before (drain n ∷ after) (rw is at named)

      named-after : All (Named k) after
      named-after = all_tail (all_right before (rw is at named))

      pub drained-from : All (λ st. all_answered S st ≡ true) (moments S after (drain_run S n (run_acts S before (at_start S words))).state)
      drained-from = all_map (λ st h. h.0) (every-moment S law Done stays-done after named-after _ (drain-done before named-before n enough))

      drained-after : all_answered S (run_acts S acts (at_start S words)).state ≡ true
      unfolding run_acts run_act
      drained-after = rw (is, acts-append S before (drain n ∷ after) (at_start S words))
          (after-acts S law Done stays-done after named-after _ (drain-done before named-before n enough)).0

    pub drained-within : Memᴰ (drain n) acts → all_answered S (run_acts S acts (at_start S words)).state ≡ true
    drained-within h = let z = member-split h in drained-after z.0 z.1 z.2
