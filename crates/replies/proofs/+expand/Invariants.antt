-- `expand`: its level falls, and the loop has put out what the records gone through stand for.
use Rattle.queue.specs.Inner.Queue.{pair_in}
use Rattle.view.specs.Inner.View.{with_order}
use Rattle.store.specs.Inner.Memory.{view, Becomes}
use Rattle.replies.proofs.Expanded.{sofar, Past, under}
use Rattle.replies.proofs.+expand.Given as goal

abbrev pub decreases-expand : goal.decreases-expand
decreases-expand l = l.level

abbrev pub invariant-loop-i : goal.invariant-loop-i
invariant-loop-i l =
    Becomes l.m (with_order (view l.initial.m) (sofar (under (view l.initial.m) l.level) l.t (pair_in l.waits.firsts l.waits.seconds) l.i))
    × Past (under (view l.initial.m) l.level) l.t (pair_in l.waits.firsts l.waits.seconds) l.waits.len l.i
