-- `text::put_orders` meets its contract: after n turns the first n lines are written.
use Prim.Native.Nat.{◌*◌}
use Rattle.digits.specs.Inner.Buffer.{WritesWithin}
use Rattle.text.specs.Text.{line_room, order_lines}
use Rattle.text.proofs.put_orders.Given as goal

abbrev pub invariant-loop-tag : goal.invariant-loop-tag
invariant-loop-tag l = WritesWithin (line_room * l.tag-index) l.fn.out (order_lines l.tag-index l.order) l.out
