-- Demand 3, as statements: what holds at every moment of every run, and between any two of them.
use Rattle.std.specs.Prelude.{ℕ, suc, ◌+◌, ◌*◌, ◌≤◌, ◌<◌, ◌≡◌, ◌≢◌, Bool, true, false, length, eqb, ltb}
use mathlib.Core.List.{List, [], ◌∷◌, ◌++◌, Memᴰ}
use Rattle.std.proofs.Math.Option.{none, some}
use Rattle.lists.specs.Choice.{choose, both}
use Rattle.lists.specs.Search.{All, InTurn, Begins, Before, only, final}
use Rattle.lists.specs.Count.{count, Distinct}
use Rattle.event.specs.Event.{Event, Act, event, drain, level_fits}
use Rattle.machine.specs.Setup.{Setup, Message, WaitRecord, Reply, place}
use Rattle.machine.specs.Arrival.{Arrival, merged, appended, refused, arrive}
use Rattle.machine.specs.State.{State, start, tags_below}
use Rattle.machine.specs.Steps.{step, node_at}
use Rattle.machine.specs.Run.{Ran, run_acts, drain_run, all_answered, is_answered, events_of, moments}
use Rattle.machine.specs.Single.{run_singly, reads}

-- the acts of an accepted trace: no event is refused with 8
abbrev pub Named : ℕ → Act → Type 0
Named k (event e) = level_fits k e.what e.level ≡ true
Named k (drain n) = Unit {0}

-- where a request stands: in the request queue of a level and position (at level 0: unissued), second in a wait record there,
-- in the reply queue there, or collected
pub data Where : Type 0 where
  requested : ℕ → ℕ → Where
  waiting : ℕ → ℕ → Where
  replying : ℕ → ℕ → Where
  answered : Where

module _ (S : Setup) where
  open S use {Word, k, R, engine_of, address_of}

  -- ---- at one moment
  -- the requests of engine e to word a, of a list
  abbrev pub of_engine_to : ℕ → ℕ → List ℕ → List ℕ
  of_engine_to e a = only (λ t. both (eqb (engine_of t) e) (eqb (address_of t) a))

  abbrev pub Unissued : State S → ℕ → Type 0
  Unissued st t = 0 < count (λ (m : Message S). m.tag) t (st.requests 0 (engine_of t))

  module _ (words : ℕ → Word) (st : State S) where
    -- run singly in the order of the list from the starting words, the request t reads v
    abbrev pub Reads : ℕ → Word → Type 0
    Reads t v = Memᴰ (record { tag = t; value = v }) (reads S st.order words)

    pub record Ordered : Type 0 where
      -- "there is an order list of distinct requests", of the trace and issued
      pub distinct : Distinct (λ t. t) st.order
      pub issued : All (λ t. (t < R) × ¬ Unissued st t) st.order
      -- "run singly in that order from the starting words they give the memory as it is"
      pub memory : (a : ℕ) → run_singly S st.order words a ≡ st.words a
      -- "and every reply collected so far"
      pub collected : (t : ℕ) (v : Word) → st.answers t ≡ some v → Reads t v
      -- and the value of every reply still under way
      pub under_way : (s p : ℕ) → All (λ (r : Reply S). Reads r.tag r.value) (st.replies s p)
      -- "one engine's requests to one word stand as issued": a beginning of all that it has
      pub as_issued : (e a : ℕ) → Begins (of_engine_to e a st.order) (of_engine_to e a (tags_below R))
      -- "none is collected twice": what is about to be collected has no answer yet
      pub once : (e : ℕ) (r : Reply S) (rest : List (Reply S)) → st.replies 0 e ≡ r ∷ rest → st.answers r.tag ≡ none
      -- where none is unanswered the list holds every request
      pub complete : all_answered S st ≡ true → (t : ℕ) → t < R → Memᴰ t st.order

  -- ---- between a moment and any later one
  pub record InTime (earlier later : State S) : Type 0 where
    -- the list only ever grows at its end, and an answer stays
    pub grows : Begins earlier.order later.order
    pub stays : (t : ℕ) (v : Word) → earlier.answers t ≡ some v → later.answers t ≡ some v
    -- "of two in the list, one collected before the other was issued stands first"
    pub real_time : (t u : ℕ) (v : Word) → earlier.answers t ≡ some v → Unissued earlier u → Memᴰ u later.order → Before t u later.order

  -- ---- where a request stands
  -- how often the request t stands there
  abbrev pub times : State S → ℕ → Where → ℕ
  times st t (requested s p) = count (λ (m : Message S). m.tag) t (st.requests s p)
  times st t (waiting s p) = count (λ (r : WaitRecord S). r.second) t (st.waits s p)
  times st t (replying s p) = count (λ (r : Reply S). r.tag) t (st.replies s p)
  times st t answered = choose (is_answered S (st.answers t)) 1 0

  -- "on its path"
  abbrev pub OnPath : ℕ → Where → Type 0
  OnPath t (requested s p) = (s ≤ k) × (p ≡ place S t s)
  OnPath t (waiting s p) = (1 ≤ s) × (s ≤ k) × (p ≡ place S t s)
  OnPath t (replying s p) = (s ≤ k) × (p ≡ place S t s)
  OnPath t answered = Unit {0}

  -- each request is in exactly one place, on its own path; what is no request of the trace is nowhere
  pub record OnePlace (st : State S) : Type 0 where
    pub somewhere : (t : ℕ) → t < R → (w : Where) × (times st t w ≡ 1) × OnPath t w × ((w' : Where) → w' ≢ w → times st t w' ≡ 0)
    pub nowhere : (t : ℕ) → R ≤ t → (w : Where) → times st t w ≡ 0

  -- ---- counts
  -- a "module step that took a message": the order list is longer after it
  abbrev pub takes : Event → State S → Bool
  takes e st = both (eqb e.what 2) (ltb (length st.order) (length (step S e st).order))

  abbrev pub is_merged : Arrival S → Bool
  is_merged (merged n) = true
  is_merged (appended n) = false
  is_merged refused = false

  -- the oldest message of a queue at level s is merged where it arrives
  abbrev pub oldest_merges : State S → ℕ → List (Message S) → Bool
  oldest_merges st s [] = false
  oldest_merges st s (m ∷ rest) = is_merged (arrive S (node_at S st (suc s) (place S m.tag (suc s))) m)

  -- an issue or a forward whose arrival merged
  abbrev pub merges : Event → State S → Bool
  merges e st =
      choose (eqb e.what 0) (oldest_merges st 0 (st.requests 0 e.position))
      (both (eqb e.what 1) (oldest_merges st e.level (st.requests e.level e.position)))

  -- how many of the steps meet a test, each in the state in which it is taken
  abbrev pub steps_that : (Event → State S → Bool) → List Event → State S → ℕ
  steps_that test [] st = 0
  steps_that test (e ∷ es) st = choose (test e st) 1 0 + steps_that test es (step S e st)

  -- ---- a whole run
  abbrev pub at_start : (ℕ → Word) → Ran S
  at_start words = record { state = start S words; rounds = 0 }

  pub record Demand3 (words : ℕ → Word) (acts : List Act) : Type 0 where
    -- "at every moment"
    pub every_moment : All (Ordered words) (moments S acts (start S words))
    pub every_two : InTurn InTime (moments S acts (start S words))
    pub one_place : All OnePlace (moments S acts (start S words))
    -- of which the state after the whole run is the last
    pub last_moment : final (start S words) (moments S acts (start S words)) ≡ (run_acts S acts (at_start words)).state
    -- "rounds .. stay within R times (2k + 2)"
    pub rounds : (run_acts S acts (at_start words)).rounds ≤ R * (2 * k + 2)
    -- "a drain allowed R(2k + 2) rounds leaves none unanswered, whichever events came before"
    pub drained : (n : ℕ) → R * (2 * k + 2) ≤ n → all_answered S (drain_run S n (run_acts S acts (at_start words))).state ≡ true
    -- so does one among the acts, whatever comes behind it: at every moment from its end on
    pub drained_from : (n : ℕ) → R * (2 * k + 2) ≤ n → (before after : List Act) → acts ≡ before ++ (drain n ∷ after)
        → All (λ st. all_answered S st ≡ true) (moments S after (drain_run S n (run_acts S before (at_start words))).state)
    -- and so after the whole run
    pub drained_within : (n : ℕ) → R * (2 * k + 2) ≤ n → Memᴰ (drain n) acts → all_answered S (run_acts S acts (at_start words)).state ≡ true
    -- "module accesses (module steps that took a message), merges"
    pub accesses : (run_acts S acts (at_start words)).state.accesses ≡ steps_that takes (events_of S acts (start S words)) (start S words)
    pub mergings : (run_acts S acts (at_start words)).state.merges ≡ steps_that merges (events_of S acts (start S words)) (start S words)
