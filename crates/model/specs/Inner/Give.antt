-- What is copied out to lent memory. Nothing here has to be believed: no contract of the public entry names it.
use Rattle.std.specs.Prelude.{ℕ, ◌≤◌, ◌≡◌, true, List, length}
use Rattle.view.specs.Inner.View.{View}
use Rattle.store.specs.Inner.Memory.{view}
use Rattle.results.specs.Inner.Copied.{values_in, marks_in}
use Rattle.lists.specs.Over.{over}
use Rattle.run.specs.Results.{Results}
use Rattle.model.specs.Result.{Lent, room_for, acceptance, memory_after}
use Rattle.model.specs.Promise.{counted, said}
use Rattle.model.specs.declared.Counts.{Counts}

-- the counts that the machine has
abbrev pub counts_in : View → Counts
counts_in v = record { ordered = length v.order; accesses = v.accesses; merges = v.merges; rounds = v.rounds }

-- a machine whose results fit the lent memory
pub record MayGive (m : List ℕ) (before : Lent) : Type 0 where
  pub requests-few : (view m).fixed.count ≤ 256
  pub order-few : length (view m).order ≤ (view m).fixed.count
  pub room : room_for (view m).fixed.count before ≡ true

-- the counts, and the lent memory after it
pub record Gives (m memory : List ℕ) (before : Lent) (c : Counts) (after : Lent) : Type 0 where
  pub counts-are : c ≡ counts_in (view m)
  pub replies-are : after.replies ≡ over (values_in (view m) (view m).fixed.count) before.replies
  pub marks-are : after.marks ≡ over (marks_in (view m) (view m).fixed.count) before.marks
  pub order_is : after.order ≡ over (view m).order before.order
  pub words_are : after.words ≡ over memory before.words

-- the counts, and all lent memory
pub record Leaves (o : Results) (before : Lent) (c : Counts) (after : Lent) : Type 0 where
  pub counts-are : counted c.ordered c.accesses c.merges c.rounds ≡ said (acceptance o)
  pub memory-is : after ≡ memory_after (acceptance o) before
