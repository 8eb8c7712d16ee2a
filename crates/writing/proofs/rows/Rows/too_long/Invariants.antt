-- `too_long` meets its contract: after i turns the size of i records is known, and it is not too long.
use Prim.Native.Nat.{◌≤◌}
use mathlib.Core.Path.{◌≡◌}
use Rattle.writing.specs.Inner.Sizes.{size_to}
use Rattle.writing.proofs.rows.Rows.too_long.Given as goal

abbrev pub invariant-loop-i : goal.invariant-loop-i
invariant-loop-i l = (l.size ≡ size_to l.self.heads.now l.i) × (l.size ≤ 65536)
