-- `put_records` meets its contract: after i turns the records of i rows are written.
use native.Mathlib.Omega.{arith}
use Rattle.writing.specs.Inner.Lent.{lent}
use Rattle.writing.proofs.Puts.{row_in, put-start, put-room, put-more, put-done}
use Rattle.writing.proofs.rows.Rows.put_records.Goals as goal

pub loop-i-init : goal.loop-i-init
loop-i-init c = put-start _ _ _

pub put_record-requires : goal.put_record-requires
put_record-requires c = record {
  row_in = row_in (lent c.args.self) c.loop-i.i (omega arith);
  room = put-room _ _ _ c.loop-i.invariant c.loop-i-test.true (rw c.count-n.ensures c.requires);
}

pub loop-i-preserved : goal.loop-i-preserved
loop-i-preserved c = put-more _ _ _ c.loop-i.invariant c.loop-i-test.true c.put_record.ensures

pub returns : goal.returns
returns c = rw c.count-n.ensures at (put-done _ _ _ c.loop-i.invariant c.loop-i-test.false)
