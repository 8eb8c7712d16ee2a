-- `write` meets its contract: a list that is refused, too short an output, or the records.
use native.Mathlib.Omega.{arith}
use borrow.Author.Rules.{rules}
use Rattle.digits.proofs.Buffer.{writes-within, new-printed}
use Rattle.writing.specs.Inner.Lent.{lent}
use Rattle.writing.proofs.Results.{refuses-row, refuses-short, records-long, writes}
use Rattle.writing.proofs.write.Goals as goal

pub returns-in-Err : goal.returns-in-Err
returns-in-Err c = rw (← c.new-list.ensures, c.from.ensures) (refuses-row (lent c.new-list.result) _ _ _ _ c.in-Err.ensures)

pub returns-in-Ok : goal.returns-in-Ok
returns-in-Ok c = rw (← c.new-list.ensures) (refuses-short (lent c.new-list.result) _ c.in-Ok.ensures c.if-out-size.true)

pub put_records-requires : goal.put_records-requires
put_records-requires c =
    rw (c.new.ensures.at, c.new.ensures.bytes, records-long (lent c.new-list.result) c.args.out.now c.in-Ok-2.ensures) (omega arith)

pub returns-in-Ok-2 : goal.returns-in-Ok-2
returns-in-Ok-2 c =
    let long = records-long (lent c.new-list.result) c.args.out.now c.in-Ok-2.ensures in
    rw (← c.new-list.ensures, c.in-Ok-2.size-is)
    (writes (lent c.new-list.result) _ c.in-Ok-2.ensures c.new-list.result.typed (omega arith) _
    (new-printed c.new.ensures.bytes c.new.ensures.at c.if-out-size.false
    (writes-within c.in-Ok.size (rw long (omega arith)) c.put_records.ensures) (search rules)).bytes)
