-- Two numbers, the first and the second.
use Rattle.std.specs.Prelude.{ℕ}

pub record Pair : Type 0 where
  pub first : ℕ
  pub second : ℕ
