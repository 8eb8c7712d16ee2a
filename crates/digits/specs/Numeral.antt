-- Texts as bytes, and numbers to a base of 2 to 10 as texts: document 01, "A session given whole".
use Rattle.std.specs.Prelude.{ℕ, zero, suc, ◌+◌, ◌*◌, ◌-◌, ◌/◌, ◌%◌, Bool, true, false, List, [], ◌∷◌, ◌++◌, ltb, eqb}
use Prim.Native.Char.{code}
use Prim.Native.String.{String}
use Rattle.lists.specs.Choice.{both}

-- the bytes of a text
unfoldable pub bytes_of : String → List ℕ
bytes_of String.[] = []
bytes_of (String.◌∷◌ c s) = code c ∷ bytes_of s

-- whether two texts are the same
unfoldable pub same : List ℕ → List ℕ → Bool
same [] [] = true
same [] (d ∷ t) = false
same (c ∷ s) [] = false
same (c ∷ s) (d ∷ t) = both (eqb c d) (same s t)

unfoldable pub digit : ℕ → ℕ
digit n = 48 + n

-- "numbers no leading zeros": a number n has at most n + 1 digits, which bounds the recursion
unfoldable pub numeral_in : ℕ → ℕ → ℕ → List ℕ
numeral_in base zero n = []
numeral_in base (suc most) n =
    elim (ltb n base) [
      | true ↦ digit n ∷ []
      | false ↦ numeral_in base most (n / base) ++ (digit (n % base) ∷ [])
    ]

unfoldable pub numeral : ℕ → ℕ → List ℕ
numeral base n = numeral_in base (suc n) n

-- "value in decimal"
abbrev pub decimal : ℕ → List ℕ
decimal = numeral 10

-- the number that digits spell, behind those that spell n
unfoldable pub value_from : ℕ → ℕ → List ℕ → ℕ
value_from base n [] = n
value_from base n (d ∷ ds) = value_from base (n * base + (d - digit 0)) ds

abbrev pub value_in : ℕ → List ℕ → ℕ
value_in base = value_from base 0

-- a text is a number in decimal where it is just the decimal of what it spells: digits alone, no leading zeros
unfoldable pub is_decimal : List ℕ → Bool
is_decimal f = same f (decimal (value_in 10 f))
