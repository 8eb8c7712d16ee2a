-- Lists of events, the drain round, the drain, the run of a list of acts and all its moments: document 01, "Steps".
use Rattle.std.specs.Prelude.{ℕ, zero, suc, ◌-◌, Bool, true, false, List, [], ◌∷◌, ◌++◌}
use Rattle.std.proofs.Math.Option.{Option, none, some}
use Rattle.lists.specs.Choice.{both}
use Rattle.event.specs.Event.{Event, Act, event, drain}
use Rattle.machine.specs.Setup.{Setup}
use Rattle.machine.specs.State.{State}
use Rattle.machine.specs.Steps.{step}

-- ---- the events of a round
-- the same step at each position below n, "positions ascending"
unfoldable pub row : ℕ → ℕ → ℕ → List Event
row what level zero = []
row what level (suc n) = row what level n ++ (record { what = what; level = level; position = n } ∷ [])

-- "returns at levels 1 to k": levels 1 to n ascending
unfoldable pub rows_up : ℕ → ℕ → ℕ → List Event
rows_up what zero N = []
rows_up what (suc n) N = rows_up what n N ++ row what (suc n) N

-- "forwards at levels k-1 down to 1": levels n to 1 descending
unfoldable pub rows_down : ℕ → ℕ → ℕ → List Event
rows_down what zero N = []
rows_down what (suc n) N = row what (suc n) N ++ rows_down what n N

-- "A drain round takes each step once: collects; returns at levels 1 to k; modules; forwards at levels k-1 down to 1; issues"
unfoldable pub round : ℕ → ℕ → List Event
round k N = row 4 0 N ++ rows_up 3 k N ++ row 2 k N ++ rows_down 1 (k - 1) N ++ row 0 0 N

module _ (S : Setup) where
  open S use {k, N, R}

  -- the state after a list of events
  unfoldable pub run_events : List Event → State S → State S
  run_events [] st = st
  run_events (e ∷ es) st = run_events es (step S e st)

  -- ---- the drain
  abbrev pub is_answered : Option S.Word → Bool
  is_answered none = false
  is_answered (some v) = true

  -- "every request is answered"
  unfoldable pub answered_below : ℕ → State S → Bool
  answered_below zero st = true
  answered_below (suc t) st = both (is_answered (st.answers t)) (answered_below t st)

  abbrev pub all_answered : State S → Bool
  all_answered st = answered_below R st

  -- a state, and "The rounds counted are the rounds run"
  pub record Ran : Type 0 where
    pub state : State S
    pub rounds : ℕ

  -- "A drain stops when every request is answered or its allowance is spent", from a state and the rounds run so far
  unfoldable pub drain_run : ℕ → Ran → Ran
  drain_run zero r = r
  drain_run (suc n) r =
      elim (all_answered r.state) [
        | true ↦ r
        | false ↦ drain_run n (record { state = run_events (round k N) r.state; rounds = suc r.rounds })
      ]

  -- ---- a trace's events and drains
  unfoldable pub run_act : Act → Ran → Ran
  run_act (event e) r = record { state = step S e r.state; rounds = r.rounds }
  run_act (drain n) r = drain_run n r

  unfoldable pub run_acts : List Act → Ran → Ran
  run_acts [] r = r
  run_acts (a ∷ as') r = run_acts as' (run_act a r)

  -- ---- the moments
  -- the steps of a drain: those of the rounds that are run
  unfoldable pub drain_events : ℕ → State S → List Event
  drain_events zero st = []
  drain_events (suc n) st =
      elim (all_answered st) [
        | true ↦ []
        | false ↦ round k N ++ drain_events n (run_events (round k N) st)
      ]

  -- the steps of a run in time order, each drain written out
  unfoldable pub events_of : List Act → State S → List Event
  events_of [] st = []
  events_of (event e ∷ as') st = e ∷ events_of as' (step S e st)
  events_of (drain n ∷ as') st = drain_events n st ++ events_of as' (run_events (drain_events n st) st)

  -- the state after each of a list of events
  unfoldable pub after_each : List Event → State S → List (State S)
  after_each [] st = []
  after_each (e ∷ es) st = step S e st ∷ after_each es (step S e st)

  -- all moments of a run, in time order: the start, the state after each event, and after each step inside a drain
  unfoldable pub moments : List Act → State S → List (State S)
  moments acts st = st ∷ after_each (events_of acts st) st
