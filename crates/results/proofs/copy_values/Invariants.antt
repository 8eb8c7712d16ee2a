-- `results::copy_values` meets its contract: the slice is filled from its front.
use Rattle.store.specs.Inner.Memory.{view}
use Rattle.results.specs.Inner.Copied.{value_in}
use Rattle.results.proofs.Filling.{Filled}
use Rattle.results.proofs.copy_values.Given as goal

abbrev pub invariant-loop-t : goal.invariant-loop-t
invariant-loop-t l = Filled (value_in (view l.m)) l.initial.replies l.replies l.t
