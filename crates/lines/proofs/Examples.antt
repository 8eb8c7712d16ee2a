-- Lines of request No. 1, computed on the definitions.
use mathlib.Core.Path.{◌≡◌, refl}
use Rattle.lists.specs.Search as S
use Rattle.digits.specs.Numeral as N
use Rattle.digits.specs.Numeral.{bytes_of}
use Rattle.event.specs.Event.{event, drain}
use Rattle.trace.specs.Item.{shape, word, request, act}
use Rattle.lines.specs.Forms.{forms, row_named_in, names_at, place_in}
use Rattle.lines.specs.Said.{skipped, says, wrong, line_says}
use Rattle.lines.specs.Said as L
use Rattle.lines.specs.declared.Reason.TheVariants.{Name, Missing, Extra, NoNumber, TooLarge}

a-shape : line_says (bytes_of "shape 1 2 2") ≡ says (shape (record { k = 1; q = 2; w = 2 }))
unfolding S.some N.bytes_of N.same N.is_decimal N.numeral N.numeral_in N.value_from N.digit forms row_named_in names_at place_in L.leading L.is_space
    L.fields_up_to L.fields L.behind L.number_then L.field_then L.values_from L.made L.fields_say line_says
a-shape = refl

a_word : line_says (bytes_of "word 5 100") ≡ says (word (record { address = 5; value = 100 }))
unfolding S.some N.bytes_of N.same N.is_decimal N.numeral N.numeral_in N.value_from N.digit forms row_named_in names_at place_in L.leading L.is_space
    L.fields_up_to L.fields L.behind L.number_then L.field_then L.values_from L.made L.fields_say line_says
a_word = refl

a-request : line_says (bytes_of "request 0 add 5 5 0") ≡ says (request (record { engine = 0; operation = 2; address = 5; first = 5; second = 0 }))
unfolding S.some N.bytes_of N.same N.is_decimal N.numeral N.numeral_in N.value_from N.digit forms row_named_in names_at place_in L.leading L.is_space
    L.fields_up_to L.fields L.behind L.number_then L.field_then L.values_from L.made L.fields_say line_says
a-request = refl

an-event : line_says (bytes_of "  event issue  0 0  ") ≡ says (act (event (record { what = 0; level = 0; position = 0 })))
unfolding S.some N.bytes_of N.same N.is_decimal N.numeral N.numeral_in N.value_from N.digit forms row_named_in names_at place_in L.leading L.is_space
    L.fields_up_to L.fields L.behind L.number_then L.field_then L.values_from L.made L.fields_say line_says
an-event = refl

a-drain : line_says (bytes_of "drain 8") ≡ says (act (drain 8))
unfolding S.some N.bytes_of N.same N.is_decimal N.numeral N.numeral_in N.value_from N.digit forms row_named_in names_at place_in L.leading L.is_space
    L.fields_up_to L.fields L.behind L.number_then L.field_then L.values_from L.made L.fields_say line_says
a-drain = refl

a-comment : line_says (bytes_of "# drain 8") ≡ skipped
unfolding S.some N.bytes_of N.same N.is_decimal N.numeral N.numeral_in N.value_from N.digit forms row_named_in names_at place_in L.leading L.is_space
    L.fields_up_to L.fields L.behind L.number_then L.field_then L.values_from L.made L.fields_say line_says
a-comment = refl

nothing : line_says (bytes_of "  ") ≡ skipped
unfolding S.some N.bytes_of N.same N.is_decimal N.numeral N.numeral_in N.value_from N.digit forms row_named_in names_at place_in L.leading L.is_space
    L.fields_up_to L.fields L.behind L.number_then L.field_then L.values_from L.made L.fields_say line_says
nothing = refl

no_name : line_says (bytes_of "fence 8") ≡ wrong Name 0
unfolding S.some N.bytes_of N.same N.is_decimal N.numeral N.numeral_in N.value_from N.digit forms row_named_in names_at place_in L.leading L.is_space
    L.fields_up_to L.fields L.behind L.number_then L.field_then L.values_from L.made L.fields_say line_says
no_name = refl

missing : line_says (bytes_of "shape 1 2") ≡ wrong Missing 3
unfolding S.some N.bytes_of N.same N.is_decimal N.numeral N.numeral_in N.value_from N.digit forms row_named_in names_at place_in L.leading L.is_space
    L.fields_up_to L.fields L.behind L.number_then L.field_then L.values_from L.made L.fields_say line_says
missing = refl

extra : line_says (bytes_of "drain 8 8") ≡ wrong Extra 2
unfolding S.some N.bytes_of N.same N.is_decimal N.numeral N.numeral_in N.value_from N.digit forms row_named_in names_at place_in L.leading L.is_space
    L.fields_up_to L.fields L.behind L.number_then L.field_then L.values_from L.made L.fields_say line_says
extra = refl

leading-zero : line_says (bytes_of "drain 08") ≡ wrong NoNumber 1
unfolding S.some N.bytes_of N.same N.is_decimal N.numeral N.numeral_in N.value_from N.digit forms row_named_in names_at place_in L.leading L.is_space
    L.fields_up_to L.fields L.behind L.number_then L.field_then L.values_from L.made L.fields_say line_says
leading-zero = refl

too_large : line_says (bytes_of "drain 65536") ≡ wrong TooLarge 1
unfolding S.some N.bytes_of N.same N.is_decimal N.numeral N.numeral_in N.value_from N.digit forms row_named_in names_at place_in L.leading L.is_space
    L.fields_up_to L.fields L.behind L.number_then L.field_then L.values_from L.made L.fields_say line_says
too_large = refl
