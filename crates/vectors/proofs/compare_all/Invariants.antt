-- `compare_all`: no more differ than ran, and one runs at each turn.
use Rattle.std.proofs.Common.{◌≤◌}
use Rattle.vectors.proofs.compare_all.Given as goal

abbrev pub invariant-loop : goal.invariant-loop
invariant-loop g l = (l.tally.differ ≤ l.tally.ran) × (l.tally.ran ≤ l.counter)
