-- `item::put_drain` meets its contract: the name and the number of rounds.
use native.Mathlib.Omega.{arith}
use lib.ListN.{length-append}
use Rattle.digits.specs.Numeral.{bytes_of}
use Rattle.trace.specs.Table.{parts_of}
use Rattle.lines.specs.Forms.{forms, name_in, names_at}
use Rattle.listing.specs.Listing.{shown_from, parts_line}
use Rattle.digits.proofs.Buffer.{writes-within}
use Rattle.listing.proofs.Lines.{decimal-two}
use Rattle.listing.proofs.item.put_drain.Goals as goal

pub line-requires : goal.line-requires
unfolding bytes_of
line-requires c = simp length-append (omega (arith, decimal-two _ c.number2.ensures.1, c.requires.room))

pub returns : goal.returns
unfolding parts_line shown_from parts_of names_at forms name_in bytes_of
returns c =
    let rounds = c.number2.ensures in
    rw (← rounds.0) (writes-within 24 (simp length-append (omega (arith, decimal-two _ rounds.1))) c.line.ensures)
