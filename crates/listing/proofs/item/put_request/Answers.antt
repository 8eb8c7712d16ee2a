-- `item::put_request` meets its contract: the name, the engine, the operation, the address and two operands.
use native.Mathlib.Omega.{arith}
use Rattle.digits.specs.Numeral.{bytes_of}
use Rattle.digits.proofs.Buffer.{writes-within, within_then, within-more, room-within}
use Rattle.trace.specs.Table.{parts_of}
use Rattle.lines.specs.Forms.{forms, name_in, names_at}
use Rattle.listing.specs.Listing.{shown_from, parts_line}
use Rattle.listing.specs.Inner.Fields.{operation_shown}
use Rattle.listing.proofs.Lines.{byte-field, word-field, operation-field}
use Rattle.listing.proofs.item.put_request.Goals as goal

pub number-requires : goal.number-requires
number-requires c =
    room-within (writes-within 8 (omega arith) c.field.ensures) _ (omega (arith, byte-field _ 32 (c.type_inv.b 0).fits, c.requires.room))

pub put_named-requires : goal.put_named-requires
unfolding operation_shown bytes_of
put_named-requires c =
    let engine = writes-within 4 (byte-field _ 32 (c.type_inv.b 0).fits) c.number.ensures in
    let before = within_then (writes-within 8 (omega arith) c.field.ensures) engine in
    room-within before _ (omega (arith, operation-field _ (c.type_inv.b 1).fits, c.requires.room))

pub number-requires-2 : goal.number-requires-2
unfolding operation_shown bytes_of
number-requires-2 c =
    let engine = writes-within 4 (byte-field _ 32 (c.type_inv.b 0).fits) c.number.ensures in
    let operation = writes-within 5 (operation-field _ (c.type_inv.b 1).fits) c.put_named.ensures in
    let before = within_then (writes-within 8 (omega arith) c.field.ensures) (within_then engine operation) in
    room-within before _ (omega (arith, byte-field _ 32 (c.type_inv.b 2).fits, c.requires.room))

pub number-requires-3 : goal.number-requires-3
unfolding operation_shown bytes_of
number-requires-3 c =
    let engine = writes-within 4 (byte-field _ 32 (c.type_inv.b 0).fits) c.number.ensures in
    let operation = writes-within 5 (operation-field _ (c.type_inv.b 1).fits) c.put_named.ensures in
    let address = writes-within 4 (byte-field _ 32 (c.type_inv.b 2).fits) c.number-2.ensures in
    let before = within_then (writes-within 8 (omega arith) c.field.ensures) (within_then engine (within_then operation address)) in
    room-within before _ (omega (arith, word-field _ 32 c.number8.type_inv, c.requires.room))

pub number-requires-4 : goal.number-requires-4
unfolding operation_shown bytes_of
number-requires-4 c =
    let engine = writes-within 4 (byte-field _ 32 (c.type_inv.b 0).fits) c.number.ensures in
    let operation = writes-within 5 (operation-field _ (c.type_inv.b 1).fits) c.put_named.ensures in
    let address = writes-within 4 (byte-field _ 32 (c.type_inv.b 2).fits) c.number-2.ensures in
    let first = writes-within 21 (word-field _ 32 c.number8.type_inv) c.number-3.ensures in
    let before = within_then (writes-within 8 (omega arith) c.field.ensures) (within_then engine (within_then operation (within_then address first))) in
    room-within before _ (omega (arith, word-field _ 10 c.number8-2.type_inv, c.requires.room))

pub returns : goal.returns
unfolding operation_shown parts_line shown_from parts_of names_at forms name_in bytes_of
returns c =
    let engine = writes-within 4 (byte-field _ 32 (c.type_inv.b 0).fits) c.number.ensures in
    let operation = writes-within 5 (operation-field _ (c.type_inv.b 1).fits) c.put_named.ensures in
    let address = writes-within 4 (byte-field _ 32 (c.type_inv.b 2).fits) c.number-2.ensures in
    let first = writes-within 21 (word-field _ 32 c.number8.type_inv) c.number-3.ensures in
    let second = writes-within 21 (word-field _ 10 c.number8-2.type_inv) c.number-4.ensures in
    let numbers = within_then address (within_then first second) in
    let line = within_then (writes-within 8 (omega arith) c.field.ensures) (within_then engine (within_then operation numbers)) in
    rw (← c.number8.ensures, ← c.number8-2.ensures) (within-more {a = 63} (omega arith) line)
