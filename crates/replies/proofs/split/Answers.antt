-- `split` meets its contract: by the room at its target.
use native.Mathlib.Omega.{arith}
use Rattle.replies.proofs.Returned.{split-full, split-room}
use Rattle.replies.proofs.split.Goals as goal

pub returns-then-count-queue_room : goal.returns-then-count-queue_room
returns-then-count-queue_room c =
    split-room c.args.m.now c.args.waits c.requires.held_pairs.1 c.second-second.ensures c.position_of-target.ensures.0 (omega (arith, c.requires.level_nonzero))
    (omega (arith, c.count.ensures, c.queue_room.ensures, c.if-count-queue_room.true)) c.operation_at-f.ensures c.value_at.ensures c.apply-answer.ensures
    c.removed-fewer.ensures.0 c.set_value.ensures c.push_reply.ensures c.store_waits.ensures

pub returns-else-count-queue_room : goal.returns-else-count-queue_room
returns-else-count-queue_room c =
    split-full c.args.m.now c.args.waits c.requires.held_pairs.1 c.second-second.ensures c.position_of-target.ensures.0
    c.told-m (omega (arith, c.count.ensures, c.queue_room.ensures, c.if-count-queue_room.false))
