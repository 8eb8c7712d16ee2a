-- `largest` meets its contract: the arms are the widths of the table.
use Rattle.std.proofs.Common.{arith}
use Rattle.trace.specs.Table.{rows, first_row, kind_row}
use Rattle.lines.specs.Inner.Told.{width_at}
use Rattle.lines.proofs.Rows.{operand-width, drain-width, narrow-width}
use Rattle.lines.proofs.field.largest.Goals as goal

pub returns-in-Word-eq1 : goal.returns-in-Word-eq1
unfolding kind_row first_row rows width_at
returns-in-Word-eq1 c = rw (c.in-Word-eq1.is-0, c.in-Word-eq1.is-1)

pub returns-in-Word-eq1-2 : goal.returns-in-Word-eq1-2
returns-in-Word-eq1-2 c = operand-width _ _ c.in-Word-eq1.is-0 (grind arith) c.requires

pub returns-in-Drain-default : goal.returns-in-Drain-default
returns-in-Drain-default c = rw c.in-Drain-default.is-0 (drain-width _ (rw c.in-Drain-default.is-0 at c.requires))

pub returns-in_default : goal.returns-in_default
returns-in_default c = narrow-width _ _ c.requires (grind arith) (grind arith) (grind arith) (grind arith)
