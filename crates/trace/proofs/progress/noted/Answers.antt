-- `noted` meets its contract: kind by kind, what the record adds.
use mathlib.Core.Path.{◌≡◌, ap, ◌∙◌}
use native.Mathlib.Omega.{arith}
use Rattle.trace.specs.Table.{item}
use Rattle.trace.specs.Inner.Kinds.{number_of_kind}
use Rattle.trace.specs.Inner.Known.{shape_in, word_in, request_in, moved_past}
use Rattle.trace.proofs.Table.{says-shape, says-word, says-request, row_told, row-sizes}
use Rattle.trace.proofs.KindRows.{moved_item, says-acts}
use Rattle.trace.proofs.Known.{notes-shape, notes-word, notes-request, notes-act}
use Rattle.trace.proofs.progress.noted.Goals as goal

pub past-next-requires : goal.past-next-requires
past-next-requires c = let k = c.requires in
    let low = (row-sizes _ (row_told _ _ k.bodied.right).right).size_low in
    (k.at_low, omega (arith, k.room.acts-at-low, k.at_low), omega (arith, low, (row_told _ _ k.bodied.right).size_is))

pub with_shape-requires : goal.with_shape-requires
with_shape-requires c = (says-shape c.args.r.body.now (ap number_of_kind c.in-Shape.is) c.requires.bodied.right).long

-- a word's body has its address
pub bounds-b-0 : goal.bounds-b-0
bounds-b-0 c = omega (arith, (says-word c.args.r.body.now (ap number_of_kind c.in-Word.is) c.requires.bodied.right).long)

pub returns-in-Shape : goal.returns-in-Shape
returns-in-Shape c = let b = c.args.r.body.now in
    let said = says-shape b (ap number_of_kind c.in-Shape.is) c.requires.bodied.right in
    let past : c.past-next.result ≡ moved_past c.args.p (item (number_of_kind c.args.r.kind) b) =
    c.past-next.ensures ∙ rw c.section.ensures (moved_item c.args.p c.args.r.kind c.requires.bodied) in
    rw (c.with_shape.ensures, past, said.is) (notes-shape c.requires.room (shape_in b))

pub returns-in-Word : goal.returns-in-Word
returns-in-Word c = let b = c.args.r.body.now in
    let said = says-word b (ap number_of_kind c.in-Word.is) c.requires.bodied.right in
    let past : c.past-next.result ≡ moved_past c.args.p (item (number_of_kind c.args.r.kind) b) =
    c.past-next.ensures ∙ rw c.section.ensures (moved_item c.args.p c.args.r.kind c.requires.bodied) in
    rw (c.mark.ensures, past, said.is) (notes-word c.requires.room (word_in b) (omega arith))

pub returns-in-Request : goal.returns-in-Request
returns-in-Request c = let b = c.args.r.body.now in
    let three = ap number_of_kind c.in-Request.is in
    let said = says-request b three c.requires.bodied.right in
    let past : c.past-next.result ≡ moved_past c.args.p (item (number_of_kind c.args.r.kind) b) =
    c.past-next.ensures ∙ rw c.section.ensures (moved_item c.args.p c.args.r.kind c.requires.bodied) in
    rw (c.with_request.ensures, past, said.is) (notes-request c.requires.room (request_in b) (c.requires.few three))

pub returns-in-Event : goal.returns-in-Event
returns-in-Event c = let b = c.args.r.body.now in
    let said = says-acts c.args.r.kind c.in-Event.is c.requires.bodied in
    let past : c.past-next.result ≡ moved_past c.args.p (item (number_of_kind c.args.r.kind) b) =
    c.past-next.ensures ∙ rw c.section.ensures (moved_item c.args.p c.args.r.kind c.requires.bodied) in
    rw (past, said.1) (notes-act c.requires.room said.0)
