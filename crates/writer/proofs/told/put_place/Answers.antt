-- `told::put_place` meets its contract: the place and what is wrong there.
use native.Mathlib.Omega.{arith}
use lib.ListN.{length-append}
use Rattle.digits.specs.Numeral.{bytes_of}
use Rattle.digits.proofs.Buffer.{writes-within, within_then, within-more, room-within}
use Rattle.writer.proofs.told.put_place.Goals as goal

pub put_number-requires : goal.put_number-requires
put_number-requires c = room-within (writes-within 6 (omega arith) c.field.ensures) 21 (omega (arith, c.requires.0))

pub field-requires-2 : goal.field-requires-2
field-requires-2 c =
    let numbered = within_then (writes-within 6 (omega arith) c.field.ensures) c.put_number.ensures in
    room-within numbered _ (simp length-append (omega (arith, c.requires.0, c.requires.1)))

pub returns : goal.returns
unfolding bytes_of
returns c =
    let wrong = writes-within 17 (simp length-append (omega (arith, c.requires.1))) c.field-2.ensures in
    within-more {a = 44} (omega arith) (within_then (writes-within 6 (omega arith) c.field.ensures) (within_then c.put_number.ensures wrong))
