-- `youngest` meets its contract. The loop's invariant: none of the younger tags has the address.
use Prim.Native.Nat.{ℕ, ◌<◌}
use Rattle.store.specs.Inner.Memory.{view}
use Rattle.node.proofs.Laws.{Passed}
use Rattle.node.proofs.youngest.Given as goal

abbrev pub invariant-loop-i : goal.invariant-loop-i
invariant-loop-i l = (j : ℕ) → j < l.i → Passed (view l.m).fixed.address l.address l.queue j
