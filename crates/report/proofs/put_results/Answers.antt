-- `report::put_results` meets its contract: the sections in their order.
use native.Mathlib.Omega.{arith}
use Rattle.store.specs.Inner.Memory.{view}
use Rattle.digits.proofs.Buffer.{within_then, room-within}
use Rattle.report.proofs.Lines.{wrote-sections}
use Rattle.report.proofs.put_results.Goals as goal

pub put_orders-requires-clause-room : goal.put_orders-requires-clause-room
put_orders-requires-clause-room c = room-within c.put_replies.ensures _ (omega (arith, c.requires.room))

pub put_words-requires : goal.put_words-requires
put_words-requires c = room-within (within_then c.put_replies.ensures c.put_orders.ensures) _ (omega (arith, c.requires.room))

pub put_counts-requires : goal.put_counts-requires
put_counts-requires c =
    let replies = c.put_replies.ensures in
    room-within (within_then (within_then replies c.put_orders.ensures) c.put_words.ensures) _ (omega (arith, c.requires.room))

pub returns : goal.returns
returns c =
    wrote-sections (view c.args.m.now) c.args.memory.now c.args.named.now c.put_replies.ensures c.put_orders.ensures c.put_words.ensures
    c.accesses-accesses.ensures c.merges-merges.ensures c.rounds-rounds.ensures c.put_counts.ensures
