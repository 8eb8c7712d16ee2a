-- What a drain in code promises: document 01, "A drain stops when every request is answered or its allowance is spent."
use Rattle.std.specs.Prelude.{ℕ, ◌≡◌, Bool, List, length}
use Rattle.store.specs.Inner.Layout.{size}
use Rattle.store.specs.Inner.Memory.{view}
use Rattle.machine.specs.Run.{all_answered, drain_run}
use Rattle.shown.specs.Inner.Network.{Network, setup}
use Rattle.shown.specs.Inner.Shown.{shown}
use Rattle.shown.specs.Inner.Reached.{Stands, shown_run}
use Rattle.moves.specs.Inner.Moves.{words_in}

-- the drain has moved the machine and the words; "The rounds counted are the rounds run"
pub record Drained (allowed : ℕ) (m words m' words' : List ℕ) : Type 0 where
  pub sized : length m' ≡ size
  pub words-sized : length words' ≡ 256
  pub fixed : (view m').fixed ≡ (view m).fixed
  pub drained : (x : Network) → Stands x (view m) (words_in words) →
      shown_run x (view m') (words_in words') ≡ drain_run (setup x) allowed (shown_run x (view m) (words_in words))
  pub stands : (x : Network) → Stands x (view m) (words_in words) → Stands x (view m') (words_in words')

-- "every request is answered"
pub record AllAnswered (m : List ℕ) (r : Bool) : Type 0 where
  pub tells : (x : Network) (words : ℕ → ℕ) → Stands x (view m) words → all_answered (setup x) (shown x (view m) words) ≡ r
