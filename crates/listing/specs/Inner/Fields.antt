-- The fields whose numbers have names, as a line shows them.
use Rattle.std.specs.Prelude.{ℕ, List, get_or}
use Rattle.digits.specs.Numeral.{decimal}
use Rattle.lines.specs.Forms.{operations, whats}

-- a number by its name, or in decimal where it has none
abbrev pub shown_of : List (List ℕ) → ℕ → List ℕ
shown_of names v = get_or names v (decimal v)

-- a request's operation
unfoldable pub operation_shown : ℕ → List ℕ
operation_shown = shown_of operations

-- what an event is
unfoldable pub what_shown : ℕ → List ℕ
what_shown = shown_of whats
