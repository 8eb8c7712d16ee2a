-- `queue::Pairs::push` meets its contract: both tags at the first place that is free.
use native.Mathlib.Omega.{arith}
use Rattle.queue.proofs.Laws.{pairs-push}
use Rattle.queue.proofs.Pairs.push.Goals as goal

pub returns : goal.returns
returns c =
    let l = c.args.self in
    (pairs-push l.firsts l.seconds l.len c.with_highest.ensures c.with_highest-2.ensures, omega arith)
