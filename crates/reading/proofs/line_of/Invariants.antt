-- `line_of` meets its contract: line by line, until the item's line is found.
use Rattle.reading.specs.Inner.Walk.{Sought}
use Rattle.reading.proofs.line_of.Given as goal

abbrev pub invariant-loop-number : goal.invariant-loop-number
invariant-loop-number l =
    (goal.iterator-loop-number).can_next l.number-iterator
    × (goal.iterator-loop-number).is_finite l.number-iterator
    × Sought l.text l.row l.number-iterator.passed l.number-iterator.rest.now l.left
