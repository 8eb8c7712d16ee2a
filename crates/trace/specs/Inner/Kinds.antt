-- The kinds of records that the code tells apart, and their numbers.
use Rattle.std.specs.Prelude.{ℕ, Result, MatchResult, ◌≡◌, false}
use Rattle.trace.specs.Table.{is_row, kind_row}
use Rattle.trace.specs.declared.Fault.{Fault}
use Rattle.trace.specs.declared.Fault.TheVariants.{Kind}
use Rattle.trace.specs.declared.kind.RecordKind.{RecordKind}
use Rattle.trace.specs.declared.kind.RecordKind.TheVariants.{Shape, Word, Request, Event, Drain}

-- the table's column "kind"
abbrev pub number_of_kind : RecordKind → ℕ
number_of_kind Shape = 1
number_of_kind Word = 2
number_of_kind Request = 3
number_of_kind Event = 4
number_of_kind Drain = 5

-- what a number tells: the kind that has it, or that no row has it
abbrev pub KindTold : ℕ → Result RecordKind Fault → Type 0
KindTold n r = MatchResult r (λ kind. number_of_kind kind ≡ n) (λ f. (f ≡ Kind) × (is_row (kind_row n) ≡ false))
