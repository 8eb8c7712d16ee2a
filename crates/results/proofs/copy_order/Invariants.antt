-- `results::copy_order` meets its contract: the slice is filled from its front.
use lib.ListN.{get_or}
use Rattle.store.specs.Inner.Memory.{view}
use Rattle.results.proofs.Filling.{Filled}
use Rattle.results.proofs.copy_order.Given as goal

abbrev pub invariant-loop-i : goal.invariant-loop-i
invariant-loop-i l = Filled (λ j. get_or (view l.m).order j 0) l.initial.order l.order l.i
