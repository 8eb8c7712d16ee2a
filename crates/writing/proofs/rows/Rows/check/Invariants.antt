-- `check` meets its contract: after i turns the rows from i on decide.
use Rattle.writing.specs.Inner.Lent.{lent}
use Rattle.writing.specs.Inner.Checked.{Inside}
use Rattle.writing.proofs.rows.Rows.check.Given as goal

abbrev pub invariant-loop-i : goal.invariant-loop-i
invariant-loop-i l = Inside (lent l.self) l.i-counter l.p l.marks
