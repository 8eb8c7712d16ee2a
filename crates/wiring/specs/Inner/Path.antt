-- The positions of a path in one word, four bits for each level, level 0 the lowest.
use Rattle.std.specs.Prelude.{ℕ, ◌^◌, ◌≤◌, ◌<◌, ◌≡◌}
use Rattle.words.specs.Inner.Digits.{digit}
use Rattle.wiring.specs.Wiring.{position}

-- the position at a level
unfoldable pub position_on : ℕ → ℕ → ℕ
position_on path s = digit 4 path s

-- the path of engine e to module m in such a word
pub record PathOf (k e m path : ℕ) : Type 0 where
  pub positions : (s : ℕ) → s ≤ k → position_on path s ≡ position k e m s
  pub small : path < 2 ^ 20
