-- `text::put_replies` meets its contract: after n turns the first n lines are written.
use Rattle.text.proofs.Sections.{replies, section-starts, section-room, section-goes}
use Rattle.text.proofs.put_replies.Goals as goal

pub loop-tag-init : goal.loop-tag-init
loop-tag-init c = section-starts (replies _ _) _

pub put_reply-requires : goal.put_reply-requires
put_reply-requires c = section-room (replies _ _) _ c.loop-tag.invariant _ c.loop-tag-test.true c.requires.room

pub loop-tag-preserved : goal.loop-tag-preserved
loop-tag-preserved c = section-goes (replies _ _) _ c.loop-tag.invariant c.put_reply.ensures
