-- What a step in code asks and promises: the machine after it is the machine before, moved by its event.
use Rattle.std.specs.Prelude.{ℕ, ◌≡◌, Bool, true, false, List, length, get_or}
use Rattle.event.specs.Event.{Event}
use Rattle.view.specs.Inner.View.{View}
use Rattle.store.specs.Inner.Layout.{size}
use Rattle.store.specs.Inner.Memory.{view}
use Rattle.shown.specs.Inner.Network.{Network}
use Rattle.shown.specs.Inner.Landing.{Came, came_merged, came_appended, came_refused, Landed}
use Rattle.shown.specs.Inner.Reached.{Stands, Moved}

-- the words of the memory, by address
abbrev pub words_in : List ℕ → ℕ → ℕ
words_in words a = get_or words a 0

-- the machine stands for a state that a run of some network reaches, with some words
pub record Ready (m : List ℕ) : Type 0 where
  pub sized : length m ≡ size
  pub network : Network
  pub words : ℕ → ℕ
  pub stands : Stands network (view m) words

-- the same with these words
pub record ReadyWith (m words : List ℕ) : Type 0 where
  pub sized : length m ≡ size
  pub words-sized : length words ≡ 256
  pub network : Network
  pub stands : Stands network (view m) (words_in words)

-- the events have moved the machine, whatever the network and the words
pub record Moves (es : List Event) (m m' : List ℕ) : Type 0 where
  pub sized : length m' ≡ size
  pub moved : (x : Network) (words : ℕ → ℕ) → Stands x (view m) words → Moved x es (view m) words (view m') words

-- the events have moved the machine and the words
pub record MovesWith (es : List Event) (m words m' words' : List ℕ) : Type 0 where
  pub sized : length m' ≡ size
  pub words-sized : length words' ≡ 256
  pub moved : (x : Network) → Stands x (view m) (words_in words) → Moved x es (view m) (words_in words) (view m') (words_in words')

-- the same of the events that the machine's own k tells
abbrev pub MovesFor : (ℕ → List Event) → List ℕ → List ℕ → Type 0
MovesFor events m m' = Moves (events (view m).fixed.k) m m'

abbrev pub MovesWithFor : (ℕ → List Event) → List ℕ → List ℕ → List ℕ → List ℕ → Type 0
MovesWithFor events m words m' words' = MovesWith (events (view m).fixed.k) m words m' words'

-- ---- an arrival
abbrev pub went_on : Came → Bool
went_on came_merged = true
went_on came_appended = true
went_on came_refused = false

-- the message t arrived at a level and position, or could not
pub record Went (v : View) (t level position : ℕ) (m' : List ℕ) (r : Bool) : Type 0 where
  pub sized : length m' ≡ size
  pub came : Came
  pub told : r ≡ went_on came
  pub landed : Landed v t level position (view m') came
