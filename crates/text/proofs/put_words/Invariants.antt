-- `text::put_words` meets its contract: after n turns the lines of the first n addresses are written.
use Prim.Native.Nat.{◌*◌}
use Rattle.digits.specs.Inner.Buffer.{WritesWithin}
use Rattle.text.specs.Text.{line_room, word_lines}
use Rattle.text.proofs.put_words.Given as goal

abbrev pub invariant-loop-address : goal.invariant-loop-address
invariant-loop-address l = WritesWithin (line_room * l.address) l.fn.out (word_lines l.address l.words l.named) l.out
