-- The omega network's wiring: document 01, "Wiring and queues".
use Rattle.std.specs.Prelude.{ℕ, zero, suc, ◌+◌, ◌-◌, ◌*◌, ◌/◌, ◌%◌, ◌^◌}

-- "Word a belongs to module a mod N", N = 2^k
unfoldable pub module_of : ℕ → ℕ → ℕ
module_of k a = a % 2 ^ k

-- "The path of engine e to module m is, at level s from 0 to k, at position (e * 2^s + floor(m / 2^(k-s))) mod 2^k."
unfoldable pub position : ℕ → ℕ → ℕ → ℕ → ℕ
position k e m s = (e * 2 ^ s + m / 2 ^ (k - s)) % 2 ^ k

-- "rotate the k bits left by one": the highest bit comes into the low place
unfoldable pub rotated : ℕ → ℕ → ℕ
rotated k p = p * 2 % 2 ^ k + p * 2 / 2 ^ k

-- "put .. in the low place"
unfoldable pub replaced : ℕ → ℕ → ℕ
replaced p b = p / 2 * 2 + b

-- "the next bit of m, highest first": at the step from level s to s + 1
unfoldable pub next_bit : ℕ → ℕ → ℕ → ℕ
next_bit k m s = m / 2 ^ (k - suc s) % 2

-- "k times: rotate the k bits left by one, then put the next bit of m, highest first, in the low place"; here s times
unfoldable pub shuffled : ℕ → ℕ → ℕ → ℕ → ℕ
shuffled k e m zero = e
shuffled k e m (suc s) = replaced (rotated k (shuffled k e m s)) (next_bit k m s)
