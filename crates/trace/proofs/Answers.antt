-- A number tells its fault, and is in the range of the table.
use Prim.Native.Nat.{ℕ, ◌≤◌}
use mathlib.Core.Path.{◌≡◌, refl, ap, sym, ◌∙◌}
use native.Mathlib.Omega.{arith}
use lib.Dec.{eqb}
use Rattle.lists.specs.Choice.{choose}
use Rattle.trace.specs.Answers.{number_of}
use Rattle.trace.specs.declared.Fault.{Fault}
use Rattle.trace.specs.declared.Fault.TheVariants.{Cut, Kind, Length, Order, Range, Twice, Operand, Step, Many, Long}

fault_of : ℕ → Fault
fault_of n =
    choose (eqb n 1) Cut
    (choose (eqb n 2) Kind
    (choose (eqb n 3) Length
    (choose (eqb n 4) Order
    (choose (eqb n 5) Range
    (choose (eqb n 6) Twice
    (choose (eqb n 7) Operand
    (choose (eqb n 8) Step
    (choose (eqb n 9) Many Long))))))))

fault-of-number : (f : Fault) → fault_of (number_of f) ≡ f
unfolding fault_of
fault-of-number Cut = refl
fault-of-number Kind = refl
fault-of-number Length = refl
fault-of-number Order = refl
fault-of-number Range = refl
fault-of-number Twice = refl
fault-of-number Operand = refl
fault-of-number Step = refl
fault-of-number Many = refl
fault-of-number Long = refl

pub number-tells : (f g : Fault) → number_of f ≡ number_of g → f ≡ g
number-tells f g e = sym (fault-of-number f) ∙ ap fault_of e ∙ fault-of-number g

-- it is none of the numbers that are told otherwise: 0 where nothing is refused, 11 for lent room
pub number-range : (f : Fault) → (1 ≤ number_of f) × (number_of f ≤ 10)
number-range Cut = (omega arith, omega arith)
number-range Kind = (omega arith, omega arith)
number-range Length = (omega arith, omega arith)
number-range Order = (omega arith, omega arith)
number-range Range = (omega arith, omega arith)
number-range Twice = (omega arith, omega arith)
number-range Operand = (omega arith, omega arith)
number-range Step = (omega arith, omega arith)
number-range Many = (omega arith, omega arith)
number-range Long = (omega arith, omega arith)
