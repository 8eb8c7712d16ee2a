-- A state that a run reaches, and a view that stands for one.
use Rattle.std.specs.Prelude.{ℕ, suc, ◌<◌, ◌≡◌, Bool, true, false, List, [], ◌∷◌, length, eqb, ltb}
use Rattle.lists.specs.Choice.{choose}
use Rattle.lists.specs.Search.{All}
use Rattle.event.specs.Event.{Event, level_fits}
use Rattle.view.specs.Inner.View.{View, operation_in}
use Rattle.machine.specs.State.{State, start}
use Rattle.machine.specs.Run.{Ran, run_events}
use Rattle.shown.specs.Inner.Network.{Network, setup, next_of, Fits}
use Rattle.shown.specs.Inner.Shown.{shown}

-- a step has nothing to move: an issue's, a forward's or a module step's request queue is empty, a return's or a collect's reply queue
abbrev pub rests_at : View → (what level position : ℕ) → Bool
rests_at v what level position = choose (ltb what 3) (eqb (length (v.requests level position)) 0) (eqb (length (v.replies level position)) 0)

-- one event, by itself
abbrev pub single : (what level position : ℕ) → List Event
single what level position = record { what = what; level = level; position = position } ∷ []

-- above the engines there is nothing, and nothing is answered or counted
pub record Quiet (v : View) : Type 0 where
  pub unanswered : (t : ℕ) → v.answered t ≡ false
  pub no-requests : (s p : ℕ) → v.requests (suc s) p ≡ []
  pub no-replies : (s p : ℕ) → v.replies s p ≡ []
  pub no-waits : (s p : ℕ) → v.waits s p ≡ []
  pub no-order : v.order ≡ []
  pub no-accesses : v.accesses ≡ 0
  pub no-merges : v.merges ≡ 0

module _ (x : Network) where
  -- by some events that name steps, from some starting words
  pub record Reached (st : State (setup x)) : Type 0 where
    pub from : ℕ → ℕ
    pub events : List Event
    pub named : All (λ e. level_fits x.k e.what e.level ≡ true) events
    pub reached : st ≡ run_events (setup x) events (start (setup x) from)

  -- the view fits the network, and stands for a state that a run reaches
  pub record Stands (v : View) (words : ℕ → ℕ) : Type 0 where
    pub fits : Fits x v.fixed
    pub reached : Reached (shown x v words)

  -- the state, with the rounds run so far
  abbrev pub shown_run : View → (ℕ → ℕ) → Ran (setup x)
  shown_run v words = record { state = shown x v words; rounds = v.rounds }

  -- the events have moved the view and the words
  pub record Moved (es : List Event) (v : View) (words : ℕ → ℕ) (v' : View) (words' : ℕ → ℕ) : Type 0 where
    pub shows : shown x v' words' ≡ run_events (setup x) es (shown x v words)
    pub fixed : v'.fixed ≡ v.fixed
    pub rounds : v'.rounds ≡ v.rounds

  -- before the first event: each tag carries the operation that its request asks for, each engine has its first request to issue, and
  -- there is nothing else
  pub record AtStart (v : View) : Type 0 where
    pub fits : Fits x v.fixed
    pub asked : (t : ℕ) → t < x.R → operation_in (v.carried t) ≡ x.asked_of t
    pub first : (e : ℕ) → v.requests 0 e ≡ choose (ltb (next_of x e 0) x.R) (next_of x e 0 ∷ []) []
    pub quiet : Quiet v
