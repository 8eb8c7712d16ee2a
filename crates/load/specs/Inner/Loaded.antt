-- What a trace is told, and what its records leave behind.
use Rattle.std.specs.Prelude.{ℕ, ◌<◌, List, ◌≡◌, length, get_or, Result}
use Rattle.lists.specs.Choice.{choose}
use Rattle.store.specs.Inner.Layout.{size as machine_size}
use Rattle.store.specs.Inner.Memory.{view}
use Rattle.trace.specs.Contents.{shape_of, words_given, requests_of, given, start_words}
use Rattle.trace.specs.Check.{items_of, check}
use Rattle.trace.specs.Inner.Told.{answered, tells}
use Rattle.trace.specs.declared.Facts.{Facts}
use Rattle.trace.specs.declared.Refusal.{Refusal}
use Rattle.load.specs.Inner.Machine.{RequestsHeld}

-- the answer, and the marks, the memory and the machine m after a trace is loaded: those of the items before the fault, where there is one
pub record Loaded (s : List ℕ) (r : Result Facts Refusal) (marks words m : List ℕ) : Type 0 where
  pub answer : tells r ≡ answered (check s)
  pub marks-sized : length marks ≡ 256
  pub marks-are : (a : ℕ) → a < 256 → get_or marks a 0 ≡ choose (given (words_given (items_of (check s))) a) 1 0
  pub words_are : words ≡ start_words (words_given (items_of (check s)))
  pub sized : length m ≡ machine_size
  pub requests-are : RequestsHeld (shape_of (items_of (check s))).k (requests_of (items_of (check s))) (view m)
