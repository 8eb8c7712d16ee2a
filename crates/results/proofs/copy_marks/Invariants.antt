-- `results::copy_marks` meets its contract: the slice is filled from its front.
use Rattle.store.specs.Inner.Memory.{view}
use Rattle.results.specs.Inner.Copied.{mark_in}
use Rattle.results.proofs.Filling.{Filled}
use Rattle.results.proofs.copy_marks.Given as goal

abbrev pub invariant-loop-t : goal.invariant-loop-t
invariant-loop-t l = Filled (mark_in (view l.m)) l.initial.marks l.marks l.t
