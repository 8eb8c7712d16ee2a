-- The machine's state, the state at the start, and the requests that a message stands for: document 01, "Wiring and queues", "Steps".
use Rattle.std.specs.Prelude.{ℕ, zero, suc, List, [], ◌∷◌, ◌++◌, eqb}
use Rattle.std.proofs.Math.Option.{Option, none}
use Rattle.lists.specs.Choice.{choose}
use Rattle.lists.specs.Table.{list_below}
use Rattle.machine.specs.Setup.{Setup, Message, WaitRecord, Reply, place}
use Rattle.machine.specs.Arrival.{records_of}

-- the tags below n, ascending
abbrev pub tags_below : ℕ → List ℕ
tags_below n = list_below n (λ t. t)

module _ (S : Setup) where
  open S use {Word, R, engine_of, address_of, operation_of}

  -- Queues and buffers are by level and position, oldest first. The requests at level 0, position e, are those that
  -- engine e has not issued, in trace order: an issue is then a forward from level 0.
  pub record State : Type 0 where
    pub requests : ℕ → ℕ → List (Message S)
    pub waits : ℕ → ℕ → List (WaitRecord S)
    pub replies : ℕ → ℕ → List (Reply S)
    pub words : ℕ → Word
    pub order : List ℕ
    pub answers : ℕ → Option Word
    pub accesses : ℕ
    pub merges : ℕ

  -- ---- a state by its parts, and a state with one part replaced: a step then says only what it changes
  abbrev pub state_of : (ℕ → ℕ → List (Message S)) → (ℕ → ℕ → List (WaitRecord S)) → (ℕ → ℕ → List (Reply S)) → (ℕ → Word)
      → List ℕ → (ℕ → Option Word) → ℕ → ℕ → State
  state_of requests waits replies words order answers accesses merges = record {
    requests = requests;
    waits = waits;
    replies = replies;
    words = words;
    order = order;
    answers = answers;
    accesses = accesses;
    merges = merges;
  }

  abbrev pub with_requests : (ℕ → ℕ → List (Message S)) → State → State
  with_requests requests st = state_of requests st.waits st.replies st.words st.order st.answers st.accesses st.merges

  abbrev pub with_waits : (ℕ → ℕ → List (WaitRecord S)) → State → State
  with_waits waits st = state_of st.requests waits st.replies st.words st.order st.answers st.accesses st.merges

  abbrev pub with_replies : (ℕ → ℕ → List (Reply S)) → State → State
  with_replies replies st = state_of st.requests st.waits replies st.words st.order st.answers st.accesses st.merges

  abbrev pub with_words : (ℕ → Word) → State → State
  with_words words st = state_of st.requests st.waits st.replies words st.order st.answers st.accesses st.merges

  abbrev pub with_order : List ℕ → State → State
  with_order order st = state_of st.requests st.waits st.replies st.words order st.answers st.accesses st.merges

  abbrev pub with_answers : (ℕ → Option Word) → State → State
  with_answers answers st = state_of st.requests st.waits st.replies st.words st.order answers st.accesses st.merges

  abbrev pub with_accesses : ℕ → State → State
  with_accesses accesses st = state_of st.requests st.waits st.replies st.words st.order st.answers accesses st.merges

  abbrev pub with_merges : ℕ → State → State
  with_merges merges st = state_of st.requests st.waits st.replies st.words st.order st.answers st.accesses merges

  -- ---- the state at the start
  -- the request t as it is issued
  abbrev pub asked : ℕ → Message S
  asked t = record { tag = t; address = address_of t; operation = operation_of t }

  -- "engine e's .. requests, in trace order"
  unfoldable pub asked_by : ℕ → List ℕ → List (Message S)
  asked_by e [] = []
  asked_by e (t ∷ ts) = choose (eqb (engine_of t) e) (asked t ∷ asked_by e ts) (asked_by e ts)

  -- before the first event nothing is issued, every queue is empty, and the words are the starting words
  unfoldable pub unissued : ℕ → ℕ → List (Message S)
  unissued zero e = asked_by e (tags_below R)
  unissued (suc s) p = []

  unfoldable pub start : (ℕ → Word) → State
  start words = record {
    requests = unissued;
    waits = λ s p. [];
    replies = λ s p. [];
    words = words;
    order = [];
    answers = λ t. none;
    accesses = 0;
    merges = 0;
  }

  -- ---- the requests that a message stands for
  -- "of each second tag recorded for t at level s, oldest record first"
  abbrev pub seconds : (ℕ → List ℕ) → List (WaitRecord S) → List ℕ
  seconds up_to [] = []
  seconds up_to (r ∷ rs) = up_to r.second ++ seconds up_to rs

  -- "the requests of t up to level s are those of t up to level s-1, followed by those, up to level s-1, of each second tag
  -- recorded for t at level s, oldest record first; up to level 0 they are t alone"
  unfoldable pub stands_for : (ℕ → ℕ → List (WaitRecord S)) → ℕ → ℕ → List ℕ
  stands_for waits zero t = t ∷ []
  stands_for waits (suc s) t = stands_for waits s t ++ seconds (stands_for waits s) (records_of S t (waits (suc s) (place S t (suc s))))
