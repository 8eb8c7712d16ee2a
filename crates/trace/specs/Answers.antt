-- This paper's number for each fault of the code.
use Rattle.std.specs.Prelude.{ℕ}
use Rattle.trace.specs.declared.Fault.{Fault}
use Rattle.trace.specs.declared.Fault.TheVariants.{Cut, Kind, Length, Order, Range, Twice, Operand, Step, Many, Long}

-- the table's column "no."
abbrev pub number_of : Fault → ℕ
number_of Cut = 1
number_of Kind = 2
number_of Length = 3
number_of Order = 4
number_of Range = 5
number_of Twice = 6
number_of Operand = 7
number_of Step = 8
number_of Many = 9
number_of Long = 10
