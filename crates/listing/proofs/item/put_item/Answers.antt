-- `item::put_item` meets its contract: kind by kind.
use mathlib.Core.Path.{ap}
use native.Mathlib.Omega.{arith}
use Rattle.digits.proofs.Buffer.{within-more}
use Rattle.trace.proofs.Table.{says-shape, says-word, says-request, says-event, says-drain}
use Rattle.trace.specs.Inner.Kinds.{number_of_kind}
use Rattle.listing.proofs.item.put_item.Goals as goal

pub put_shape-requires : goal.put_shape-requires
put_shape-requires c =
    let said = says-shape c.args.r.body.now (ap number_of_kind c.in-Shape.is) c.requires.row in
    record { long = said.long; room = omega (arith, said.long, c.requires.room) }

pub put_word-requires : goal.put_word-requires
put_word-requires c =
    let said = says-word c.args.r.body.now (ap number_of_kind c.in-Word.is) c.requires.row in
    record { long = said.long; room = omega (arith, said.long, c.requires.room) }

pub put_request-requires : goal.put_request-requires
put_request-requires c =
    let said = says-request c.args.r.body.now (ap number_of_kind c.in-Request.is) c.requires.row in
    record { long = said.long; room = omega (arith, said.long, c.requires.room) }

pub put_event-requires : goal.put_event-requires
put_event-requires c =
    let said = says-event c.args.r.body.now (ap number_of_kind c.in-Event.is) c.requires.row in
    record { long = said.long; room = omega (arith, said.long, c.requires.room) }

pub put_drain-requires : goal.put_drain-requires
put_drain-requires c =
    let said = says-drain c.args.r.body.now (ap number_of_kind c.in-Drain.is) c.requires.row in
    record { long = said.long; room = omega (arith, said.long, c.requires.room) }

pub returns-in-Shape : goal.returns-in-Shape
returns-in-Shape c =
    let said = says-shape c.args.r.body.now (ap number_of_kind c.in-Shape.is) c.requires.row in
    rw said.is (within-more (omega (arith, said.long)) c.put_shape.ensures)

pub returns-in-Word : goal.returns-in-Word
returns-in-Word c =
    let said = says-word c.args.r.body.now (ap number_of_kind c.in-Word.is) c.requires.row in
    rw said.is (within-more (omega (arith, said.long)) c.put_word.ensures)

pub returns-in-Request : goal.returns-in-Request
returns-in-Request c =
    let said = says-request c.args.r.body.now (ap number_of_kind c.in-Request.is) c.requires.row in
    rw said.is (within-more (omega (arith, said.long)) c.put_request.ensures)

pub returns-in-Event : goal.returns-in-Event
returns-in-Event c =
    let said = says-event c.args.r.body.now (ap number_of_kind c.in-Event.is) c.requires.row in
    rw said.is (within-more (omega (arith, said.long)) c.put_event.ensures)

pub returns-in-Drain : goal.returns-in-Drain
returns-in-Drain c =
    let said = says-drain c.args.r.body.now (ap number_of_kind c.in-Drain.is) c.requires.row in
    rw said.is (within-more (omega (arith, said.long)) c.put_drain.ensures)
