-- `item::put_event` meets its contract: the name, what it is, and two numbers.
use native.Mathlib.Omega.{arith}
use Rattle.digits.specs.Numeral.{bytes_of}
use Rattle.digits.proofs.Buffer.{writes-within, within_then, within-more, room-within}
use Rattle.trace.specs.Table.{parts_of}
use Rattle.lines.specs.Forms.{forms, name_in, names_at}
use Rattle.listing.specs.Listing.{shown_from, parts_line}
use Rattle.listing.specs.Inner.Fields.{what_shown}
use Rattle.listing.proofs.Lines.{byte-field, what-field}
use Rattle.listing.proofs.item.put_event.Goals as goal

pub put_what-requires : goal.put_what-requires
unfolding what_shown bytes_of
put_what-requires c =
    room-within (writes-within 6 (omega arith) c.field.ensures) _ (omega (arith, what-field _ (c.type_inv.b 0).fits, c.requires.room))

pub number-requires : goal.number-requires
unfolding what_shown bytes_of
number-requires c =
    let what = writes-within 8 (what-field _ (c.type_inv.b 0).fits) c.put_what.ensures in
    room-within (within_then (writes-within 6 (omega arith) c.field.ensures) what) _ (omega (arith, byte-field _ 32 (c.type_inv.b 1).fits, c.requires.room))

pub number-requires-2 : goal.number-requires-2
unfolding what_shown bytes_of
number-requires-2 c =
    let what = writes-within 8 (what-field _ (c.type_inv.b 0).fits) c.put_what.ensures in
    let level = writes-within 4 (byte-field _ 32 (c.type_inv.b 1).fits) c.number.ensures in
    let before = within_then (writes-within 6 (omega arith) c.field.ensures) (within_then what level) in
    room-within before _ (omega (arith, byte-field _ 10 (c.type_inv.b 2).fits, c.requires.room))

pub returns : goal.returns
unfolding what_shown parts_line shown_from parts_of names_at forms name_in bytes_of
returns c =
    let what = writes-within 8 (what-field _ (c.type_inv.b 0).fits) c.put_what.ensures in
    let level = writes-within 4 (byte-field _ 32 (c.type_inv.b 1).fits) c.number.ensures in
    let position = writes-within 4 (byte-field _ 10 (c.type_inv.b 2).fits) c.number-2.ensures in
    within-more {a = 22} (omega arith) (within_then (writes-within 6 (omega arith) c.field.ensures) (within_then what (within_then level position)))
