-- Lines of items, computed on the definitions.
use mathlib.Core.Path.{◌≡◌, refl}
use Rattle.digits.specs.Numeral as N
use Rattle.digits.specs.Numeral.{bytes_of}
use Rattle.event.specs.Event.{event, drain}
use Rattle.trace.specs.Item.{request, act}
use Rattle.trace.specs.Table.{parts_of}
use Rattle.lines.specs.Forms.{forms, name_in, names_at}
use Rattle.listing.specs.Listing.{shown_from, parts_line, item_line}

a-request : item_line (request (record { engine = 0; operation = 2; address = 5; first = 5; second = 0 })) ≡ bytes_of "request 0 add 5 5 0\n"
unfolding N.bytes_of N.numeral N.numeral_in N.digit parts_of forms name_in names_at shown_from parts_line
a-request = refl

-- an operation that has no name
no-operation : item_line (request (record { engine = 15; operation = 4; address = 255; first = 10; second = 0 })) ≡ bytes_of "request 15 4 255 10 0\n"
unfolding N.bytes_of N.numeral N.numeral_in N.digit parts_of forms name_in names_at shown_from parts_line
no-operation = refl

an-event : item_line (act (event (record { what = 0; level = 0; position = 0 }))) ≡ bytes_of "event issue 0 0\n"
unfolding N.bytes_of N.numeral N.numeral_in N.digit parts_of forms name_in names_at shown_from parts_line
an-event = refl

a-drain : item_line (act (drain 8)) ≡ bytes_of "drain 8\n"
unfolding N.bytes_of N.numeral N.numeral_in N.digit parts_of forms name_in names_at shown_from parts_line
a-drain = refl
