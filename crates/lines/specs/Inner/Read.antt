-- What the code says of a line.
use Rattle.std.specs.Prelude.{ℕ, ◌≤◌, List, ◌≡◌, length, take, drop, Option, Some, None, Result, Ok, Err}
use Rattle.trace.specs.Table.{kind_row}
use Rattle.trace.specs.Inner.Fits.{FieldsFit}
use Rattle.trace.specs.Inner.Kinds.{number_of_kind}
use Rattle.trace.specs.declared.kind.RecordKind.{RecordKind}
use Rattle.lines.specs.Said as L
use Rattle.lines.specs.Said.{fields, values_from, made, line_says}
use Rattle.lines.specs.Inner.Told.{in_front}
use Rattle.lines.specs.declared.Wrong.{Wrong}

-- what fields behind the name of a kind say
unfoldable pub kind_says : ℕ → List (List ℕ) → L.Said
kind_says kind fs = made (kind_row kind) (values_from kind 0 (kind_row kind).widths fs)

-- an item of a kind, whose numbers stand at the front of the values and fit their fields
pub record ItemRead (said : L.Said) (kind : ℕ) (values : List ℕ) : Type 0 where
  pub says_is : said ≡ L.says ((kind_row kind).make (take (length (kind_row kind).widths) values))
  pub fit : FieldsFit (kind_row kind).widths (take (length (kind_row kind).widths) values)

-- what the code's answer says
abbrev pub Says : L.Said → Result (Option RecordKind) Wrong → List ℕ → Type 0
Says said (Ok None) values = said ≡ L.skipped
Says said (Ok (Some kind)) values = ItemRead said (number_of_kind kind) values
Says said (Err w) values = said ≡ L.wrong w.reason w.place

pub record SaidRead (said : L.Said) (r : Result (Option RecordKind) Wrong) (values : List ℕ) : Type 0 where
  pub told : Says said r values
  pub room : length values ≡ 5

-- the line that is read
abbrev pub LineRead : List ℕ → Result (Option RecordKind) Wrong → List ℕ → Type 0
LineRead line r values = SaidRead (line_says line) r values

-- the first fields of a kind's record are read, and a rest of the line is left: their numbers are the first of the values
pub record FieldsRead (line : List ℕ) (kind : ℕ) (values : List ℕ) (place : ℕ) (rest : List ℕ) : Type 0 where
  pub many : place ≤ length (kind_row kind).widths
  pub room : length values ≡ 5
  pub so_far : values_from kind 0 (kind_row kind).widths (fields line) ≡
      in_front (take place values) (values_from kind place (drop place (kind_row kind).widths) (fields rest))
  pub fit : FieldsFit (take place (kind_row kind).widths) (take place values)
