-- The events and drains that are left of a trace at an offset, and what stands there.
use Rattle.std.specs.Prelude.{ℕ, ◌+◌, ◌≤◌, List, [], ◌∷◌, ◌++◌, ◌≡◌, length, take, drop, Option, Some, None}
use Rattle.lists.specs.Search.{All}
use Rattle.event.specs.Event.{Act}
use Rattle.trace.specs.Item.{act, Items}
use Rattle.trace.specs.Table.{record_size}
use Rattle.trace.specs.Write.{record_of}
use Rattle.trace.specs.Inner.Fits.{FitsBytes}
use Rattle.trace.specs.Contents.{acts_of, acts_offset}
use Rattle.trace.specs.declared.acts.Act.{Act as ReadAct}
use Rattle.trace.specs.declared.acts.Act.TheVariants.{Event, Drain}

-- how many bytes an act's record has
abbrev pub act_size : Act → ℕ
act_size a = record_size (act a)

-- and how many all of them have
unfoldable pub acts_size : List Act → ℕ
acts_size [] = 0
acts_size (a ∷ rest) = act_size a + acts_size rest

-- the offset where the first n acts have been passed
abbrev pub act_offset : Items → ℕ → ℕ
act_offset xs n = acts_offset xs + acts_size (take n (acts_of xs))

-- its fields fit their bytes
abbrev pub ActFits : Act → Type 0
ActFits a = FitsBytes (act a)

-- the records of acts, one after another
unfoldable pub acts_written : List Act → List ℕ
acts_written [] = []
acts_written (a ∷ rest) = record_of (act a) ++ acts_written rest

-- from offset `at` on the trace s is just the records of these acts
pub record Left (s : List ℕ) (at : ℕ) (left : List Act) : Type 0 where
  pub inside : at ≤ length s
  pub bytes-are : drop at s ≡ acts_written left
  pub fit : All ActFits left

-- what is read of an act, and what stands where the next one is due
abbrev pub due_of : Act → ReadAct
due_of (Act.event e) = Event e.what e.level e.position
due_of (Act.drain rounds) = Drain rounds

abbrev pub due : List Act → Option ReadAct
due [] = None
due (a ∷ rest) = Some (due_of a)

-- there are such acts: what `act_at` asks
pub record ActsLeft (s : List ℕ) (at : ℕ) : Type 0 where
  pub left : List Act
  pub are-left : Left s at left

-- what was read is the next of them: what `act_at` promises
pub record ActRead (s : List ℕ) (at : ℕ) (r : Option ReadAct) : Type 0 where
  pub is : (left : List Act) → Left s at left → r ≡ due left
