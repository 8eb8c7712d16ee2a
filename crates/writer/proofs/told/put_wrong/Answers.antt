-- `told::put_wrong` meets its contract: the number of the line, and why.
use native.Mathlib.Omega.{arith}
use borrow.Author.Rules.{rules}
use Rattle.digits.specs.Numeral.{bytes_of}
use Rattle.digits.proofs.Buffer.{writes-within, within_then, within-more, room-within, new-room, new-wrote}
use Rattle.writer.proofs.Parts.{wrong-parts}
use Rattle.writer.proofs.told.put_wrong.Goals as goal

pub byte-requires : goal.byte-requires
byte-requires c =
    let room = new-room c.new-told.result c.new-told.ensures.bytes c.new-told.ensures.at 128 c.requires in
    room-within (within_then (writes-within 5 (omega arith) c.field.ensures) c.put_number.ensures) 1 (omega (arith, room))

pub put_reason-requires : goal.put_reason-requires
put_reason-requires c =
    let room = new-room c.new-told.result c.new-told.ensures.bytes c.new-told.ensures.at 128 c.requires in
    let number = within_then c.put_number.ensures (writes-within 1 (omega arith) c.byte.ensures) in
    room-within (within_then (writes-within 5 (omega arith) c.field.ensures) number) 48 (omega (arith, room))

pub returns : goal.returns
unfolding bytes_of
returns c =
    let a = c.args in
    let new = c.new-told.ensures in
    let number = within_then c.put_number.ensures (writes-within 1 (omega arith) c.byte.ensures) in
    let all = within_then (writes-within 5 (omega arith) c.field.ensures) (within_then number c.put_reason.ensures) in
    rw (← (wrong-parts a.line.number a.line.wrong.reason a.line.wrong.place)) (new-wrote new.bytes new.at (within-more {a = 75} (omega arith) all) (search rules))
