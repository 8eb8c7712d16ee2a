-- The length of fields, fields that have no name, and the line of a record's last kind.
use Prim.Native.Nat.{ℕ, zero, suc, ◌^◌, ◌≤◌, ◌<◌}
use mathlib.Core.Path.{◌≡◌}
use mathlib.Core.List.{[], ◌∷◌, ◌++◌}
use native.Mathlib.Omega.{arith}
use lib.ListN.{length, length-append, get_or-eq_default}
use Rattle.digits.specs.Numeral.{bytes_of, decimal}
use Rattle.digits.proofs.Numerals.{numeral-length, decimal-word}
use Rattle.lines.specs.Forms.{whats}
use Rattle.listing.specs.Inner.Fields.{operation_shown, what_shown}

-- ---- length
-- a byte has at most 3 digits, two bytes 5
pub decimal-byte : (n : ℕ) → n < 256 → length (decimal n) ≤ 3
decimal-byte n h = numeral-length 10 (omega arith) 2 n (omega arith)

pub decimal-two : (n : ℕ) → n < 65536 → length (decimal n) ≤ 5
decimal-two n h = numeral-length 10 (omega arith) 4 n (omega arith)

-- and with the byte behind it
pub byte-field : (n behind : ℕ) → n < 256 → length (decimal n ++ (behind ∷ [])) ≤ 4
byte-field n behind h = simp length-append (omega (arith, decimal-byte n h))

pub word-field : (n behind : ℕ) → n < 2 ^ 64 → length (decimal n ++ (behind ∷ [])) ≤ 21
word-field n behind h = simp length-append (omega (arith, decimal-word n h))

-- ---- numbers that may have a name, and the space behind them
operation-short : (v : ℕ) → v < 256 → length (operation_shown v) ≤ 4
unfolding operation_shown bytes_of
operation-short zero h = omega arith
operation-short (suc zero) h = omega arith
operation-short (suc (suc zero)) h = omega arith
operation-short (suc (suc (suc zero))) h = omega arith
operation-short (suc (suc (suc (suc v)))) h = omega (arith, decimal-byte (suc (suc (suc (suc v)))) h)

what-short : (v : ℕ) → v < 256 → length (what_shown v) ≤ 7
unfolding what_shown bytes_of
what-short zero h = omega arith
what-short (suc zero) h = omega arith
what-short (suc (suc zero)) h = omega arith
what-short (suc (suc (suc zero))) h = omega arith
what-short (suc (suc (suc (suc zero)))) h = omega arith
what-short (suc (suc (suc (suc (suc v))))) h = omega (arith, decimal-byte (suc (suc (suc (suc (suc v))))) h)

pub operation-field : (v : ℕ) → v < 256 → length (operation_shown v ++ (32 ∷ [])) ≤ 5
operation-field v h = simp length-append (omega (arith, operation-short v h))

pub what-field : (v : ℕ) → v < 256 → length (what_shown v ++ (32 ∷ [])) ≤ 8
what-field v h = simp length-append (omega (arith, what-short v h))

-- a number past the last has none
pub what-unnamed : (v : ℕ) → 4 < v → what_shown v ≡ decimal v
unfolding what_shown
what-unnamed v h = get_or-eq_default whats (decimal v) {n = v} (omega arith)
