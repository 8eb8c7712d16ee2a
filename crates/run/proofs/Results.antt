-- What the machine and the words hold at the end of a run is what the defined run gives.
use Prim.Native.Nat.{ℕ}
use mathlib.Core.Path.{◌≡◌, refl, ◌∙◌, ap}
use mathlib.Core.Bool.{Bool, true, false}
use mathlib.Core.List.{List}
use mathlib.Core.Option.{none, some}
use lib.ListN.{length}
use Rattle.lists.specs.Choice.{choose}
use Rattle.lists.specs.Table.{list_below}
use Rattle.lists.proofs.Below.{below-is, below-same}
use Rattle.view.specs.Inner.View.{View}
use Rattle.store.specs.Inner.Memory.{view}
use Rattle.trace.specs.Item.{Items}
use Rattle.trace.specs.Contents.{requests_of}
use Rattle.machine.specs.Run.{Ran}
use Rattle.results.specs.Inner.Copied.{values_in, marks_in}
use Rattle.shown.specs.Inner.Network.{Network, setup}
use Rattle.shown.specs.Inner.Shown.{answer_of, shown}
use Rattle.shown.specs.Inner.Reached.{shown_run}
use Rattle.moves.specs.Inner.Moves.{words_in}
use Rattle.run.specs.Results.{value_of, mark_of, Results, results_of}
use Rattle.run.specs.Inner.Run.{network_of, RanTo}

-- ---- what a run gives, and what a view and words give
abbrev given_by : (x : Network) → Ran (setup x) → Results
given_by x r = record {
  replies = list_below x.R (λ t. value_of (r.state.answers t));
  marks = list_below x.R (λ t. mark_of (r.state.answers t));
  order = r.state.order;
  words = list_below 256 r.state.words;
  accesses = r.state.accesses;
  merges = r.state.merges;
  rounds = r.rounds;
}

abbrev pub results_in : ℕ → View → List ℕ → Results
results_in n v words = record {
  replies = values_in v n;
  marks = marks_in v n;
  order = v.order;
  words = words;
  accesses = v.accesses;
  merges = v.merges;
  rounds = v.rounds;
}

value-chosen : (b : Bool) (value : ℕ) → choose b value 0 ≡ value_of (choose b (some value) none)
value-chosen true value = refl
value-chosen false value = refl

mark-chosen : (b : Bool) (value : ℕ) → choose b 1 0 ≡ mark_of (choose b (some value) none)
mark-chosen true value = refl
mark-chosen false value = refl

module _ (x : Network) (v : View) (words : List ℕ) (sized : length words ≡ 256) where
  values-are : values_in v x.R ≡ list_below x.R (λ t. value_of (answer_of x v t))
  values-are = below-same x.R _ _ (λ t l. value-chosen (v.answered t) (v.carried t).first)

  marks-are : marks_in v x.R ≡ list_below x.R (λ t. mark_of (answer_of x v t))
  marks-are = below-same x.R _ _ (λ t l. mark-chosen (v.answered t) (v.carried t).first)

  words_are : words ≡ list_below 256 (words_in words)
  words_are = below-is 0 256 (words_in words) words sized (λ a l. refl)

  shown-gives : results_in x.R v words ≡ given_by x (shown_run x v (words_in words))
  unfolding shown
  shown-gives = λ i. record {
    replies = values-are i;
    marks = marks-are i;
    order = v.order;
    words = words_are i;
    accesses = v.accesses;
    merges = v.merges;
    rounds = v.rounds;
  }

-- ---- of a whole run
module _ {items : Items} {m memory : List ℕ} (r : RanTo items m memory) where
  pub results-are : results_in (length (requests_of items)) (view m) memory ≡ results_of items
  unfolding results_of
  results-are = shown-gives (network_of items) (view m) memory r.words-sized ∙ ap (given_by (network_of items)) r.shows
