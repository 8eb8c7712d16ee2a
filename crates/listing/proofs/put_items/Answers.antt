-- `listing::put_items` meets its contract: a line for each record.
use mathlib.Core.Path.{◌≡◌, sym}
use Rattle.std.proofs.Common.{rules, None}
use Rattle.trace.proofs.Records.{head-body}
use Rattle.listing.proofs.Walk.{walk-starts, walk-room, walk-goes, walk-whole, walk_ends}
use Rattle.listing.proofs.put_items.Goals as goal

pub loop-record-init : goal.loop-record-init
loop-record-init c = walk-starts _ _ c.requires.accepted

pub put_item-requires-clause-room : goal.put_item-requires-clause-room
put_item-requires-clause-room c =
    let here = head-body (rw (c.new.ensures.0, c.new.ensures.1, c.in-Ok-Some.is, c.in-Ok-Some.field-0-is) at c.head.ensures) in
    walk-room c.requires.accepted c.loop-record.invariant here c.requires.room

pub loop-record-preserved : goal.loop-record-preserved
loop-record-preserved c =
    let here = head-body (rw (c.new.ensures.0, c.new.ensures.1, c.in-Ok-Some.is, c.in-Ok-Some.field-0-is) at c.head.ensures) in
    walk-goes c.requires.accepted c.loop-record.invariant here c.put_item.ensures

pub returns-in_default : goal.returns-in_default
returns-in_default c =
    let none : c.in_default.field-0 ≡ None = search rules in
    let read = rw (c.new.ensures.0, c.new.ensures.1, c.in_default.is, none) at c.head.ensures in
    walk_ends c.requires.accepted c.loop-record.invariant (sym read.says)

pub returns-in_default-2 : goal.returns-in_default-2
returns-in_default-2 c =
    let read = rw (c.new.ensures.0, c.new.ensures.1, c.in_default.is) at c.head.ensures in
    walk-whole c.requires.accepted c.loop-record.invariant (sym read.says)
