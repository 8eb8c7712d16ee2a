-- `text::put_replies` meets its contract: after n turns the first n lines are written.
use Prim.Native.Nat.{◌*◌}
use Rattle.digits.specs.Inner.Buffer.{WritesWithin}
use Rattle.text.specs.Text.{line_room, reply_lines}
use Rattle.text.proofs.put_replies.Given as goal

abbrev pub invariant-loop-tag : goal.invariant-loop-tag
invariant-loop-tag l = WritesWithin (line_room * l.tag) l.fn.out (reply_lines l.tag l.values l.marks) l.out
