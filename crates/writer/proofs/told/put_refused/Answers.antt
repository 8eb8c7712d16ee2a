-- `told::put_refused` meets its contract: the refusal, the offset, and the number of a line where there is one.
use native.Mathlib.Omega.{arith}
use borrow.Author.Rules.{rules}
use Rattle.digits.specs.Numeral.{bytes_of}
use Rattle.digits.proofs.Buffer.{writes-within, within_then, within-more, room-within, new-room, new-wrote}
use Rattle.writer.specs.Told.{line_fields, refused_text}
use Rattle.writer.proofs.told.put_refused.Goals as goal

pub put_number-requires-in_default : goal.put_number-requires-in_default
put_number-requires-in_default c =
    let room = new-room c.new-told.result c.new-told.ensures.bytes c.new-told.ensures.at 128 c.requires in
    room-within (within_then (writes-within 8 (omega arith) c.field.ensures) c.put_number.ensures) 21 (omega (arith, room))

pub put_number-requires-2 : goal.put_number-requires-2
put_number-requires-2 c =
    let room = new-room c.new-told.result c.new-told.ensures.bytes c.new-told.ensures.at 128 c.requires in
    room-within (within_then (writes-within 8 (omega arith) c.field.ensures) c.put_number.ensures) 21 (omega (arith, room))

pub field-requires-2 : goal.field-requires-2
field-requires-2 c =
    let room = new-room c.new-told.result c.new-told.ensures.bytes c.new-told.ensures.at 128 c.requires in
    let two = within_then c.put_number.ensures c.put_number-2.ensures in
    room-within (within_then (writes-within 8 (omega arith) c.field.ensures) two) 5 (omega (arith, room))

pub put_number-requires-3 : goal.put_number-requires-3
put_number-requires-3 c =
    let room = new-room c.new-told.result c.new-told.ensures.bytes c.new-told.ensures.at 128 c.requires in
    let two = within_then c.put_number.ensures (within_then c.put_number-2.ensures (writes-within 5 (omega arith) c.field-2.ensures)) in
    room-within (within_then (writes-within 8 (omega arith) c.field.ensures) two) 21 (omega (arith, room))

pub returns-in_default : goal.returns-in_default
unfolding refused_text line_fields bytes_of
returns-in_default c =
    let new = c.new-told.ensures in
    let all = within_then (writes-within 8 (omega arith) c.field.ensures) (within_then c.put_number.ensures c.put_number-in_default.ensures) in
    rw c.in_default.is (new-wrote new.bytes new.at (within-more {a = 50} (omega arith) all) (search rules))

pub returns : goal.returns
unfolding refused_text line_fields bytes_of
returns c =
    let new = c.new-told.ensures in
    let last = within_then (writes-within 5 (omega arith) c.field-2.ensures) c.put_number-3.ensures in
    let numbers = within_then c.put_number.ensures (within_then c.put_number-2.ensures last) in
    let all = within_then (writes-within 8 (omega arith) c.field.ensures) numbers in
    rw c.in-Some.is (new-wrote new.bytes new.at (within-more {a = 76} (omega arith) all) (search rules))
