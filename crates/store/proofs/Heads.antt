-- What a head holds as it is written: the code, the address, the engine's next request in twenty bits, and the path.
use Prim.Native.Nat.{ℕ, ◌+◌, ◌*◌, ◌/◌, ◌%◌, ◌^◌, ◌≤◌, ◌<◌}
use mathlib.Core.Path.{◌≡◌}
use native.Mathlib.Omega.{arith}
use Rattle.store.specs.Inner.Memory.{code_of, address_of, path_of, after_of}

pub record Head (h code address path after : ℕ) : Type 0 where
  pub code_is : code_of h ≡ code
  pub address_is : address_of h ≡ address
  pub path_is : path_of h ≡ path
  pub after_is : after_of h ≡ after

-- a new one
pub head-new : (code address path : ℕ) → code < 256 → address < 256 → Head (code + 256 * address + 2 ^ 36 * path) code address path 0
head-new code address path a b = record { code_is = omega arith; address_is = omega arith; path_is = omega arith; after_is = omega arith }

-- with another next request
pub head-linked : (h n : ℕ) → n ≤ 256 → Head (h / 2 ^ 36 * 2 ^ 36 + 2 ^ 16 * n + h % 2 ^ 16) (code_of h) (address_of h) (path_of h) n
head-linked h n a = record { code_is = omega arith; address_is = omega arith; path_is = omega arith; after_is = omega arith }

-- with another code
pub head-coded : (h code : ℕ) → code < 256 → Head (h / 256 * 256 + code) code (address_of h) (path_of h) (after_of h)
head-coded h code a = record { code_is = omega arith; address_is = omega arith; path_is = omega arith; after_is = omega arith }
