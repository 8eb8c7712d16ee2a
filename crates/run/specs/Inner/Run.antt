-- What the functions of a run promise one another. Nothing here has to be believed: no contract of a public function names it.
use Rattle.std.specs.Prelude.{ℕ, ◌*◌, ◌≤◌, ◌≡◌, List, length}
use Rattle.lists.specs.Search.{All}
use Rattle.operation.specs.Operation.{operation_of}
use Rattle.event.specs.Event.{Act}
use Rattle.store.specs.Inner.Layout.{size}
use Rattle.store.specs.Inner.Memory.{view}
use Rattle.trace.specs.Item.{Items}
use Rattle.trace.specs.Contents.{shape_of, words_given, requests_of, request_at, start_words}
use Rattle.trace.specs.Check.{accepted, items_of, check}
use Rattle.trace.specs.Inner.Told.{facts_of}
use Rattle.trace.specs.Inner.Ranges.{ActIn}
use Rattle.trace.specs.Inner.Acts.{Left}
use Rattle.trace.specs.declared.Facts.{Facts}
use Rattle.machine.specs.Run.{run_acts}
use Rattle.load.specs.Inner.Machine.{RequestsHeld}
use Rattle.shown.specs.Inner.Network.{Network, setup}
use Rattle.shown.specs.Inner.Reached.{Stands, shown_run}
use Rattle.moves.specs.Inner.Moves.{words_in, ReadyWith}
use Rattle.run.specs.Results.{ran_of}

-- the items of a trace, up to a fault
abbrev pub items_in : List ℕ → Items
items_in trace = items_of (check trace)

-- its network: `setup (network_of items)` is `setup_of items`
abbrev pub network_of : Items → Network
network_of items = record {
  k = (shape_of items).k;
  Q = (shape_of items).q;
  W = (shape_of items).w;
  R = length (requests_of items);
  engine_of = λ t. (request_at (requests_of items) t).engine;
  address_of = λ t. (request_at (requests_of items) t).address;
  asked_of = λ t. operation_of (request_at (requests_of items) t).operation (request_at (requests_of items) t).first (request_at (requests_of items) t).second;
}

-- what is known of an accepted trace once it is loaded
pub record Loading (trace : List ℕ) (facts : Facts) (m words : List ℕ) : Type 0 where
  pub verdict : check trace ≡ accepted (items_in trace)
  pub facts-are : facts ≡ facts_of (items_in trace)
  pub sized : length m ≡ size
  pub requests-are : RequestsHeld (shape_of (items_in trace)).k (requests_of (items_in trace)) (view m)
  pub words_are : words ≡ start_words (words_given (items_in trace))

-- ---- the acts that are left at an offset
module _ (trace : List ℕ) (at : ℕ) where
  pub record ActsReady (m words : List ℕ) : Type 0 where
    pub ready : ReadyWith m words
    -- each drain runs at most 2,560 rounds, and takes more than a byte
    pub few : (view m).rounds ≤ 2560 * at
    pub short : length trace ≤ 65536
    pub acts : List Act
    pub are-left : Left trace at acts
    pub are-in : All (ActIn (view m).fixed.k) acts

  -- they have been run
  pub record ActsRun (m words m' words' : List ℕ) : Type 0 where
    pub sized : length m' ≡ size
    pub words-sized : length words' ≡ 256
    pub shows : (x : Network) (acts : List Act) → Stands x (view m) (words_in words) → Left trace at acts → All (ActIn x.k) acts →
        shown_run x (view m') (words_in words') ≡ run_acts (setup x) acts (shown_run x (view m) (words_in words))
    pub stands : (x : Network) → Stands x (view m) (words_in words) → Stands x (view m') (words_in words')

-- ---- the whole run
-- the machine and the words stand for the run's end
pub record RanTo (items : Items) (m words : List ℕ) : Type 0 where
  pub sized : length m ≡ size
  pub words-sized : length words ≡ 256
  pub shows : shown_run (network_of items) (view m) (words_in words) ≡ ran_of items
  pub count-is : (view m).fixed.count ≡ length (requests_of items)
  -- there is room for the order list wherever there is for R tags
  pub order-few : length (view m).order ≤ length (requests_of items)
  pub requests-few : length (requests_of items) ≤ 256
