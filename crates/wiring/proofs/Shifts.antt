-- At the sizes of document 01 a shift to the left loses no bit.
use mathlib.Core.Path.{◌≡◌, ◌∙◌}
use Prim.Native.Nat.{ℕ, ◌+◌, ◌*◌, ◌%◌, ◌^◌, ◌≤◌, ◌<◌}
use native.Mathlib.Omega.{arith}
use lib.Pow.{pow_mono, shl_exact, shl_lt}

-- N is at most 16
pub width_small : (k : ℕ) → k ≤ 4 → 2 ^ k ≤ 16
width_small k h = pow_mono {i = k} {j = 4} h

-- N = 2^k, as the code shifts it
pub width-exact : (k : ℕ) → k ≤ 4 → 1 * 2 ^ k % 2 ^ 64 ≡ 2 ^ k
width-exact k h = shl_exact {a = 1} 1 k 64 (omega arith) (omega arith) ∙ (omega arith)

module _ (x s : ℕ) (h : x < 16) (l : s ≤ 4) where
  pub left-exact : x * 2 ^ s % 2 ^ 64 ≡ x * 2 ^ s
  left-exact = shl_exact {a = x} 4 s 64 h (omega arith)

  pub left-small : x * 2 ^ s < 256
  left-small = let b : 2 ^ (4 + s) ≤ 2 ^ 8 = pow_mono {i = 4 + s} {j = 8} (omega arith) in omega (arith, shl_lt {a = x} 4 s h)
