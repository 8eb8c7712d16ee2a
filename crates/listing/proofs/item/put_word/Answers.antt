-- `item::put_word` meets its contract: the name, the address and the value.
use native.Mathlib.Omega.{arith}
use lib.ListN.{length-append}
use Rattle.digits.specs.Numeral.{bytes_of}
use Rattle.trace.specs.Table.{parts_of}
use Rattle.lines.specs.Forms.{forms, name_in, names_at}
use Rattle.listing.specs.Listing.{shown_from, parts_line}
use Rattle.digits.proofs.Buffer.{writes-within}
use Rattle.digits.proofs.Numerals.{decimal-word}
use Rattle.listing.proofs.Lines.{decimal-byte}
use Rattle.listing.proofs.item.put_word.Goals as goal

pub line-requires : goal.line-requires
unfolding bytes_of
line-requires c =
    let address = decimal-byte _ (c.type_inv.b 0).fits in
    let value = decimal-word _ c.number8.type_inv in
    simp length-append (omega (arith, address, value, c.requires.room))

pub returns : goal.returns
unfolding parts_line shown_from parts_of names_at forms name_in bytes_of
returns c =
    let address = decimal-byte _ (c.type_inv.b 0).fits in
    let value = decimal-word _ c.number8.type_inv in
    rw (← c.number8.ensures) (writes-within 52 (simp length-append (omega (arith, address, value))) c.line.ensures)
