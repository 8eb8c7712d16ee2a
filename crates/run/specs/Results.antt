-- The defined run of a trace, and what it gives: document 01, "What a trace is told".
use Rattle.std.specs.Prelude.{ℕ, List, length, get_or}
use Rattle.std.proofs.Math.Option.{Option, none, some}
use Rattle.lists.specs.Table.{list_below}
use Rattle.operation.specs.Operation.{operation_of}
use Rattle.trace.specs.Item.{Items}
use Rattle.trace.specs.Contents.{shape_of, words_given, requests_of, request_at, acts_of, start_words}
use Rattle.machine.specs.Setup.{Setup}
use Rattle.machine.specs.Run.{Ran, run_acts}
use Rattle.machine.specs.Order.{at_start}
use Rattle.machine.specs.Omega.{omega_network}

-- ---- the defined run
-- document 01's network with a trace's shape and requests
abbrev pub setup_of : Items → Setup
setup_of items =
    omega_network (shape_of items).k (shape_of items).q (shape_of items).w (length (requests_of items))
    (λ t. (request_at (requests_of items) t).engine)
    (λ t. (request_at (requests_of items) t).address)
    (λ t. operation_of (request_at (requests_of items) t).operation (request_at (requests_of items) t).first (request_at (requests_of items) t).second)

-- "A word without a record starts at zero"
abbrev pub words_at_start : Items → ℕ → ℕ
words_at_start items a = get_or (start_words (words_given items)) a 0

-- the events and drains of the trace, run from the start
unfoldable pub ran_of : (items : Items) → Ran (setup_of items)
ran_of items = run_acts (setup_of items) (acts_of items) (at_start (setup_of items) (words_at_start items))

-- ---- what it gives
-- "reply values (0 where unanswered) and marks (1 answered, 0 otherwise)"
abbrev pub value_of : Option ℕ → ℕ
value_of none = 0
value_of (some v) = v

abbrev pub mark_of : Option ℕ → ℕ
mark_of none = 0
mark_of (some v) = 1

-- "first R reply values .. and marks ..; order places up to its length; the 256 words"; "Also returned: order length, module
-- accesses .., merges, rounds, each as counted in the defined run"
pub record Results : Type 0 where
  pub replies : List ℕ
  pub marks : List ℕ
  pub order : List ℕ
  pub words : List ℕ
  pub accesses : ℕ
  pub merges : ℕ
  pub rounds : ℕ

unfoldable pub results_of : (items : Items) → Results
results_of items = record {
  replies = list_below (length (requests_of items)) (λ t. value_of ((ran_of items).state.answers t));
  marks = list_below (length (requests_of items)) (λ t. mark_of ((ran_of items).state.answers t));
  order = (ran_of items).state.order;
  words = list_below 256 (ran_of items).state.words;
  accesses = (ran_of items).state.accesses;
  merges = (ran_of items).state.merges;
  rounds = (ran_of items).rounds;
}
