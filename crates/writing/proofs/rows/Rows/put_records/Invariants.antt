-- `put_records` meets its contract: after i turns the records of i rows are written.
use Rattle.writing.specs.Inner.Lent.{lent}
use Rattle.writing.proofs.Puts.{Put}
use Rattle.writing.proofs.rows.Rows.put_records.Given as goal

abbrev pub invariant-loop-i : goal.invariant-loop-i
invariant-loop-i l = Put (lent l.self) l.n l.initial.out l.out l.i
