-- `lower` meets its contract: by the room at its target.
use native.Mathlib.Omega.{arith}
use Rattle.replies.proofs.Returned.{target-kept, lower-room}
use Rattle.replies.proofs.lower.Goals as goal

pub push_reply-requires-clause-position_len_bound : goal.push_reply-requires-clause-position_len_bound
push_reply-requires-clause-position_len_bound c =
    let kept = target-kept c.args.m.now c.args.level _ _ c.args.t _ (omega (arith, c.requires.level_nonzero)) c.position_of-to.ensures.0 c.pop.ensures in
    rw kept (omega (arith, c.requires.level_nonzero, c.count.ensures, c.queue_room.ensures, c.if-count-queue_room.true))

pub returns-then-count-queue_room : goal.returns-then-count-queue_room
returns-then-count-queue_room c =
    lower-room c.args.m.now c.args.level _ _ _ _ (omega (arith, c.requires.level_nonzero)) c.position_of-to.ensures.0 c.pop.ensures
    (omega (arith, c.count.ensures, c.queue_room.ensures, c.if-count-queue_room.true)) c.push_reply.ensures
