-- `item::put_shape` meets its contract: the name and three numbers.
use native.Mathlib.Omega.{arith}
use lib.ListN.{length-append}
use Rattle.digits.specs.Numeral.{bytes_of}
use Rattle.trace.specs.Table.{parts_of}
use Rattle.lines.specs.Forms.{forms, name_in, names_at}
use Rattle.listing.specs.Listing.{shown_from, parts_line}
use Rattle.digits.proofs.Buffer.{writes-within}
use Rattle.listing.proofs.Lines.{decimal-byte}
use Rattle.listing.proofs.item.put_shape.Goals as goal

pub line-requires : goal.line-requires
unfolding bytes_of
line-requires c =
    let byte = c.type_inv.b in
    simp length-append (omega (arith, decimal-byte _ (byte 0).fits, decimal-byte _ (byte 1).fits, decimal-byte _ (byte 2).fits, c.requires.room))

pub returns : goal.returns
unfolding parts_line shown_from parts_of names_at forms name_in bytes_of
returns c =
    let byte = c.type_inv.b in
    writes-within 28 (simp length-append (omega (arith, decimal-byte _ (byte 0).fits, decimal-byte _ (byte 1).fits, decimal-byte _ (byte 2).fits))) c.line.ensures
