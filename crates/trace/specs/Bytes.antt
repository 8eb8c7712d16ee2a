-- Numbers and fields in a list of bytes: document 01, "Trace records".
use Rattle.std.specs.Prelude.{ℕ, zero, suc, ◌+◌, ◌*◌, ◌<◌, List, [], ◌∷◌, get_or}

-- every element is a byte
pub record AreBytes (s : List ℕ) : Type 0 where
  pub below : (i : ℕ) → get_or s i 0 < 256

-- "All numbers are unsigned, least significant byte first": the number that the `count` bytes from place i on spell
unfoldable pub number : ℕ → List ℕ → ℕ → ℕ
number zero s i = 0
number (suc count) s i = get_or s i 0 + 256 * number count s (suc i)

-- fields one behind another, each of its width in bytes: the numbers that stand from place i on
unfoldable pub fields_in : List ℕ → List ℕ → ℕ → List ℕ
fields_in [] s i = []
fields_in (width ∷ widths) s i = number width s i ∷ fields_in widths s (i + width)

-- how many bytes they have together
unfoldable pub total : List ℕ → ℕ
total [] = 0
total (width ∷ widths) = width + total widths
