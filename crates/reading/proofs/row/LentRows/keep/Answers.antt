-- `keep` meets its contract: the item is stored where a row is left.
use Rattle.std.proofs.Common.{add-one}
use Rattle.reading.proofs.Held.{holds-full, holds_more}
use Rattle.reading.proofs.row.LentRows.keep.Goals as goal

pub returns-then-self-count-clause-kept : goal.returns-then-self-count-clause-kept
returns-then-self-count-clause-kept c = record {
  one_more = λ before xs held. rw (c.put_row.ensures.filled, add-one)
      (holds_more held (rw c.count.ensures at c.if-self-count.true) c.put_row.ensures.row);
}

pub returns-else-self-count-clause-kept : goal.returns-else-self-count-clause-kept
returns-else-self-count-clause-kept c = record { one_more = λ before xs held. holds-full held _ (rw c.count.ensures at c.if-self-count.false) }
