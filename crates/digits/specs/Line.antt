-- A line of fields: document 01, "A session given whole".
use Rattle.std.specs.Prelude.{ℕ, List, [], ◌∷◌, ◌++◌}
use Rattle.digits.specs.Numeral.{bytes_of}

-- "Fields have one space between them", "every line ends with one newline"
abbrev pub line : List (List ℕ) → List ℕ
line [] = bytes_of "\n"
line (field ∷ []) = field ++ bytes_of "\n"
line (field ∷ next ∷ fields) = field ++ bytes_of " " ++ line (next ∷ fields)
