-- `text::put_orders` meets its contract: after n turns the first n lines are written.
use Rattle.text.proofs.Sections.{orders, section-starts, section-room, section-goes}
use Rattle.text.proofs.put_orders.Goals as goal

pub loop-tag-init : goal.loop-tag-init
loop-tag-init c = section-starts (orders _) _

pub put_order-requires : goal.put_order-requires
put_order-requires c = section-room (orders _) _ c.loop-tag.invariant _ c.loop-tag-test.true c.requires

pub loop-tag-preserved : goal.loop-tag-preserved
loop-tag-preserved c = section-goes (orders _) _ c.loop-tag.invariant c.put_order.ensures
