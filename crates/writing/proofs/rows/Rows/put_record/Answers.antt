-- `put_record` meets its contract: the header, then the body.
use mathlib.Core.Path.{◌∙◌}
use native.Mathlib.Omega.{arith}
use lib.ListN.{length-append}
use Rattle.digits.proofs.Buffer.{writes_then}
use Rattle.trace.specs.Table.{body_size}
use Rattle.trace.specs.Write.{bytes}
use Rattle.trace.proofs.Numbers.{length-bytes}
use Rattle.writing.specs.Rows.{kind_at}
use Rattle.writing.specs.Inner.Lent.{lent}
use Rattle.writing.specs.Inner.Records.{row_at}
use Rattle.writing.proofs.Bytes.{room-after}
use Rattle.writing.proofs.Puts.{record-writes}
use Rattle.writing.proofs.Sizes.{body-few}
use Rattle.writing.proofs.rows.Rows.put_record.Goals as goal

pub overflow_cast-body_size : goal.overflow_cast-body_size
overflow_cast-body_size c = record { fits = omega (arith, body-few (kind_at (lent c.args.self) c.args.i)) }

pub put_two-requires-2 : goal.put_two-requires-2
put_two-requires-2 c = room-after c.put_two.ensures 2 2 (length-bytes 2 _) (omega arith)

pub put_body-requires-clause-room : goal.put_body-requires-clause-room
put_body-requires-clause-room c =
    room-after (writes_then c.put_two.ensures c.put_two-2.ensures) 4 (body_size (row_at (lent c.args.self) c.args.i))
    (length-append (bytes 2 _) (bytes 2 _) ∙ omega (arith, length-bytes 2 c.body_size.result, length-bytes 2 c.kind.result)) c.requires.room

pub returns : goal.returns
returns c = record-writes (lent c.args.self) c.args.i c.body_size.ensures c.kind.ensures c.put_two.ensures c.put_two-2.ensures c.put_body.ensures
