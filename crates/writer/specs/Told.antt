-- The lines that the writer tells on standard error: request No. 1 of document 02.
use Rattle.std.specs.Prelude.{ℕ, List, [], ◌∷◌, ◌++◌, slice_get, eqb, Option, None, Some}
use Rattle.lists.specs.Choice.{choose}
use Rattle.digits.specs.Numeral.{bytes_of, decimal}
use Rattle.digits.specs.Line.{line}
use Rattle.lines.specs.declared.Reason.{Reason}
use Rattle.lines.specs.declared.Reason.TheVariants.{Name, Missing, Extra, NoNumber, TooLarge}
use Rattle.reading.specs.Text.{item_lines}

-- no line is longer
abbrev pub told_room : ℕ
told_room = 128

-- why a line is no item; the fields of the record are counted from 1
unfoldable pub reason_fields : Reason → ℕ → List (List ℕ)
reason_fields Name place = bytes_of "no such record" ∷ []
reason_fields Missing place = bytes_of "field" ∷ decimal place ∷ bytes_of "is missing" ∷ []
reason_fields Extra place = bytes_of "field" ∷ decimal place ∷ bytes_of "is one too many" ∷ []
reason_fields NoNumber place = bytes_of "field" ∷ decimal place ∷ bytes_of "is no number" ∷ []
reason_fields TooLarge place = bytes_of "field" ∷ decimal place ∷ bytes_of "is too large" ∷ []

-- "`line L: REASON`"
unfoldable pub wrong_text : ℕ → Reason → ℕ → List ℕ
wrong_text number reason place = line (bytes_of "line" ∷ (decimal number ++ bytes_of ":") ∷ reason_fields reason place)

-- the line of the item that is refused, none where there is none: 10 is about the list, and an empty list has no item
unfoldable pub line_refused : List ℕ → ℕ → ℕ → Option ℕ
line_refused text refusal row = choose (eqb refusal 10) None (slice_get (item_lines text) row)

unfoldable pub line_fields : Option ℕ → List (List ℕ)
line_fields None = []
line_fields (Some number) = bytes_of "line" ∷ decimal number ∷ []

-- "`refused N OFFSET line L`, or for 10 and for an empty list `refused N 0`"
unfoldable pub refused_text : ℕ → ℕ → Option ℕ → List ℕ
refused_text refusal offset of-line = line (bytes_of "refused" ∷ decimal refusal ∷ decimal offset ∷ line_fields of-line)
