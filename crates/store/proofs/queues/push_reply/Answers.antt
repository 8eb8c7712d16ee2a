-- `push_reply` meets its contract: a byte below all others, and the length.
use Rattle.store.proofs.Queued.{reply-pushed}
use Rattle.store.proofs.queues.push_reply.Goals as goal

pub returns : goal.returns
returns c =
    let pushed = c.with_lowest.ensures in
    reply-pushed c.args.m.now c.told-m c.args.level c.args.position c.requires.level_bound c.args.t _ _ c.requires.position_len_bound pushed c.one_more.ensures
