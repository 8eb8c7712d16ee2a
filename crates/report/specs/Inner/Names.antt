-- Which addresses a trace names, in the marks of 256 addresses. No contract of the public function names it.
use Rattle.std.specs.Prelude.{ℕ, zero, suc, ◌<◌, ◌≡◌, Bool, true, false, List, length, get_or, eqb}
use Rattle.lists.specs.Choice.{choose}

-- one of the first n requests has address a, by the addresses of the tags
unfoldable pub asks_below : (ℕ → ℕ) → ℕ → ℕ → Bool
asks_below address zero a = false
asks_below address (suc n) a = choose (eqb (address n) a) true (asks_below address n a)

-- the marks of one list, with those of the first n requests
pub record Marked (address : ℕ → ℕ) (n : ℕ) (before after : List ℕ) : Type 0 where
  pub size : length after ≡ 256
  pub marks : (a : ℕ) → a < 256 → get_or after a 0 ≡ choose (asks_below address n a) 1 (get_or before a 0)
