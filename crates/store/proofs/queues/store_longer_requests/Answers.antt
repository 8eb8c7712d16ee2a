-- `store_longer_requests` meets its contract: a word, and one more in its row.
use native.Mathlib.Omega.{arith}
use Rattle.store.proofs.Queued.{request-count-kept, requests-stored}
use Rattle.store.proofs.queues.store_longer_requests.Goals as goal

pub returns : goal.returns
returns c =
    let on = c.requires.level_nonzero in
    let queue = c.args.queue in
    let kept = request-count-kept c.args.m.now c.told-m c.args.level c.args.position (on.1, on.2) on.0 queue.items in
    requests-stored c.args.m.now c.told-m c.args.level c.args.position (on.1, on.2) on.0 queue.items _ _ queue.len
    (omega (arith, kept, c.requires.held_tags)) c.one_more.ensures
