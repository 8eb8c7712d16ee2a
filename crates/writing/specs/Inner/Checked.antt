-- How the rows are checked one by one, and the promises of the private functions that do it.
use Rattle.std.specs.Prelude.{ℕ, ◌+◌, ◌≤◌, ◌≡◌, List, drop, Result, Ok, Err}
use Rattle.trace.specs.Item.{Item, Items, none}
use Rattle.trace.specs.Table.{size}
use Rattle.trace.specs.Check.{Verdict, refused, accepted, check_records}
use Rattle.trace.specs.Answers.{number_of}
use Rattle.trace.specs.Inner.Known.{Known, RecordFault, Room, Noted}
use Rattle.trace.specs.declared.Fault.{Fault}
use Rattle.trace.specs.declared.progress.Progress.{Progress}
use Rattle.writing.specs.Rows.{Rows, entries}
use Rattle.writing.specs.Writing.{records_of, list_size, count}
use Rattle.writing.specs.declared.check.Faulty.{Faulty}
use Rattle.writing.specs.declared.Written.{Written}

-- ---- a body
-- the items before it are known, and the sums fit
pub record MayCheck (p : Progress) (marks : List ℕ) : Type 0 where
  pub before : Items
  pub known : Known before p marks
  pub room : Room p marks
  pub at_low : p.at ≤ 65536

-- its fault; or none, and what is known behind it
pub record BodyPasses (x : Item) (p : Progress) (marks : List ℕ) (p' : Progress) (marks' : List ℕ) : Type 0 where
  pub clean : RecordFault p marks x (Ok tt)
  pub noted : Noted x p marks p' marks'

abbrev pub BodyTurn : Item → Progress → List ℕ → Result Progress Fault → List ℕ → Type 0
BodyTurn x p marks (Err f) marks' = RecordFault p marks x (Err f)
BodyTurn x p marks (Ok p') marks' = BodyPasses x p marks p' marks'

-- ---- a row
-- what the check of all rows says
abbrev pub verdict_of : Rows → Verdict
verdict_of r = check_records none (records_of (entries r))

-- the rows from i on decide
pub record Inside (r : Rows) (i : ℕ) (p : Progress) (marks : List ℕ) : Type 0 where
  pub before : Items
  pub known : Known before p marks
  pub room : Room p marks
  pub many : count before ≡ i
  pub short : list_size (entries r) ≤ 65536
  pub sizes : size before + list_size (drop i (entries r)) ≡ list_size (entries r)
  pub verdict : verdict_of r ≡ check_records before (records_of (drop i (entries r)))

-- ---- what is found: the size of the items' records; or a fault, its offset and its row
pub record IsClean (v : Verdict) (n : ℕ) : Type 0 where
  pub items : Items
  pub accepts : v ≡ accepted items
  pub size_is : n ≡ size items

pub record IsFaulty (v : Verdict) (f : Fault) (offset row : ℕ) : Type 0 where
  pub before : Items
  pub refuses : v ≡ refused (number_of f) before
  pub offset-is : offset ≡ size before
  pub row_is : row ≡ count before

abbrev pub RowTurn : Rows → ℕ → Progress → Result Progress Fault → List ℕ → Type 0
RowTurn r i p (Err f) marks' = IsFaulty (verdict_of r) f p.at i
RowTurn r i p (Ok p') marks' = Inside r (i + 1) p' marks'

abbrev pub IsChecked : Verdict → Result ℕ Faulty → Type 0
IsChecked v (Ok n) = IsClean v n
IsChecked v (Err f) = IsFaulty v f.fault f.offset f.row

-- ---- and how a fault is told
abbrev pub refused_row : Faulty → Written
refused_row f = record { refusal = number_of f.fault; offset = f.offset; row = f.row; len = 0 }
