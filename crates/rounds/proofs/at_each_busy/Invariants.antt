-- `at_each_busy` meets its contract. The loop's invariant: the row up to the positions whose lengths are left. Its measure: those lengths.
use Rattle.event.specs.Inner.Steps.{number_of_step}
use Rattle.rounds.proofs.Rows.{Going}
use Rattle.rounds.proofs.at_each_busy.Given as goal

abbrev pub invariant-loop-left : goal.invariant-loop-left
invariant-loop-left g l = Going (number_of_step l.fn.step) l.level l.initial.m l.initial.words l.m l.words l.left

abbrev pub decreases-loop-left : goal.decreases-loop-left
decreases-loop-left g l = l.left
