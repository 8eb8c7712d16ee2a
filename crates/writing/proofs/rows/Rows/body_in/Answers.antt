-- `body_in` meets its contract: what stands in the array from its start on is the body.
use native.Mathlib.Omega.{arith}
use borrow.Author.Rules.{rules}
use Rattle.digits.proofs.Buffer.{writes-within, new-printed}
use Rattle.writing.specs.Rows.{kind_at}
use Rattle.writing.specs.Inner.Lent.{lent}
use Rattle.writing.proofs.Entries.{length-body-at}
use Rattle.writing.proofs.Sizes.{body-few}
use Rattle.writing.proofs.rows.Rows.body_in.Goals as goal

pub put_body-requires : goal.put_body-requires
put_body-requires c = record {
  row_in = c.requires;
  room = rw (c.new-body.ensures.bytes, c.new-body.ensures.at) (omega (arith, body-few (kind_at (lent c.args.self) c.args.i)));
}

pub returns : goal.returns
returns c =
    let low = writes-within 19 (omega (arith, length-body-at (lent c.args.self) c.args.i, body-few (kind_at (lent c.args.self) c.args.i))) c.put_body.ensures in
    new-printed c.new-body.ensures.bytes c.new-body.ensures.at (omega arith) low (search rules)
