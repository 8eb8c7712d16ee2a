-- What is written into lent memory.
use Rattle.std.specs.Prelude.{ℕ, List, ◌++◌, length, drop}

-- a list put in front of what is lent beyond it: document 01, "Everything lent beyond those stays"
abbrev pub over : List ℕ → List ℕ → List ℕ
over new old = new ++ drop (length new) old
