-- `fill` meets its contract: line by line.
use Rattle.reading.specs.Inner.Row.{lent, SameLent}
use Rattle.reading.specs.Inner.Walk.{Walked}
use Rattle.reading.proofs.fill.Given as goal

abbrev pub invariant-loop-number : goal.invariant-loop-number
invariant-loop-number l =
    (goal.iterator-loop-number).can_next l.number-iterator
    × (goal.iterator-loop-number).is_finite l.number-iterator
    × SameLent l.fn.rows l.rows
    × Walked l.text (lent l.fn.rows) l.number-iterator.passed l.number-iterator.rest.now l.rows.filled (lent l.rows)
