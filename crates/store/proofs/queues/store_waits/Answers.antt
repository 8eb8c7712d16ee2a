-- `store_waits` meets its contract: two words, and their length in its row.
use mathlib.Core.Path.{refl}
use Rattle.store.proofs.Queued.{waits-stored}
use Rattle.store.proofs.queues.store_waits.Goals as goal

pub returns : goal.returns
returns c =
    let waits = c.args.waits in
    waits-stored c.args.m.now c.told-m c.args.level c.args.position c.requires.level_bound waits.firsts waits.seconds _ waits.len waits.len refl
    c.with_length.ensures
