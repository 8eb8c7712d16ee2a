-- Texts of request No. 1, computed on the definitions.
use mathlib.Core.Path.{◌≡◌, refl}
use mathlib.Core.List.{[], ◌∷◌}
use Rattle.lists.specs.Search as S
use Rattle.digits.specs.Numeral as N
use Rattle.digits.specs.Numeral.{bytes_of}
use Rattle.event.specs.Event.{drain}
use Rattle.trace.specs.Item.{word, act}
use Rattle.lines.specs.Forms.{forms, row_named_in, names_at, place_in}
use Rattle.lines.specs.Said as L
use Rattle.lines.specs.declared.Reason.TheVariants.{Missing}
use Rattle.reading.specs.Text.{lines_up_to, lines_of, items, wrong_line, push, line_then, read_from, text_says, item_then, item_lines_from, item_lines}

two_items : text_says (bytes_of "word 5 100\n# then\ndrain 8\n") ≡ items (word (record { address = 5; value = 100 }) ∷ act (drain 8) ∷ [])
unfolding S.some N.bytes_of N.same N.is_decimal N.numeral N.numeral_in N.value_from N.digit forms row_named_in names_at place_in L.leading L.is_space
    L.fields_up_to L.fields L.behind L.number_then L.field_then L.values_from L.made L.fields_say L.line_says
    lines_up_to lines_of push line_then read_from text_says
two_items = refl

their-lines : item_lines (bytes_of "word 5 100\n# then\ndrain 8\n") ≡ 1 ∷ 3 ∷ []
unfolding S.some N.bytes_of N.same N.is_decimal N.numeral N.numeral_in N.value_from N.digit forms row_named_in names_at place_in L.leading L.is_space
    L.fields_up_to L.fields L.behind L.number_then L.field_then L.values_from L.made L.fields_say L.line_says
    lines_up_to lines_of item_then item_lines_from item_lines
their-lines = refl

-- the last line lacks its newline
second-wrong : text_says (bytes_of "drain 8\nword 5") ≡ wrong_line 2 Missing 2
unfolding S.some N.bytes_of N.same N.is_decimal N.numeral N.numeral_in N.value_from N.digit forms row_named_in names_at place_in L.leading L.is_space
    L.fields_up_to L.fields L.behind L.number_then L.field_then L.values_from L.made L.fields_say L.line_says
    lines_up_to lines_of push line_then read_from text_says
second-wrong = refl
