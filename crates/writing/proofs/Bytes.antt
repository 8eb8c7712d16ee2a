-- Numbers in bytes, byte by byte, and the room behind what was written.
use Prim.Native.Nat.{ℕ, ◌+◌, ◌≤◌}
use mathlib.Core.Path.{◌≡◌, refl}
use mathlib.Core.List.{List}
use native.Mathlib.Nat.{div-div-eq-div-mul}
use native.Mathlib.Omega.{arith}
use Rattle.std.specs.Int.{w16, w64, to_le_bytes}
use lib.ListN.{length, take, drop, length-drop}
use lib.Seq.{length-take-le}
use Rattle.digits.specs.Inner.Buffer.{HasRoom, Writes}
use Rattle.digits.specs.declared.LentBuffer.{LentBuffer}
use Rattle.digits.proofs.Buffer.{size-kept}
use Rattle.trace.specs.Write.{bytes}

-- std's bytes of a number are those of a field
pub two_bytes : (v : ℕ) → to_le_bytes w16 v ≡ bytes 2 v
unfolding bytes
two_bytes v = refl

pub eight_bytes : (v : ℕ) → to_le_bytes w64 v ≡ bytes 8 v
unfolding bytes
eight_bytes v = simp div-div-eq-div-mul

-- room behind what was written
pub room-after : {out : LentBuffer} {first : List ℕ} {middle : LentBuffer} → Writes out first middle → (n m : ℕ) → length first ≡ n →
    HasRoom out (n + m) → HasRoom middle m
room-after w n m e h = omega (arith, size-kept w, w.wrote.behind, e, h)

-- the first numbers of a part of a list
pub length_part : (count from : ℕ) (l : List ℕ) → from + count ≤ length l → length (take count (drop from l)) ≡ count
length_part count from l h = length-take-le count (drop from l) (rw (length-drop from l) (omega arith))
