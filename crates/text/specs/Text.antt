-- The lines of a report: document 01, "A session given whole".
use Rattle.std.specs.Prelude.{ℕ, zero, suc, List, [], ◌∷◌, ◌++◌, get_or, eqb}
use Rattle.lists.specs.Choice.{choose}
use Rattle.digits.specs.Numeral.{bytes_of, decimal}
use Rattle.digits.specs.Line.{line}

-- ---- lines
-- no line is longer
abbrev pub line_room : ℕ
line_room = 64

-- "`reply` tag and value in decimal, `-` for unanswered": mark 0 is unanswered
unfoldable pub reply_line : ℕ → ℕ → ℕ → List ℕ
reply_line tag value mark = line (bytes_of "reply" ∷ decimal tag ∷ choose (eqb mark 0) (bytes_of "-") (decimal value) ∷ [])

-- "`order` a tag"
unfoldable pub order_line : ℕ → List ℕ
order_line tag = line (bytes_of "order" ∷ decimal tag ∷ [])

-- "`word` address and value .. for each address that a word record or request names": mark 0 is an address that none names
unfoldable pub word_line : ℕ → ℕ → ℕ → List ℕ
word_line address value named = choose (eqb named 0) [] (line (bytes_of "word" ∷ decimal address ∷ decimal value ∷ []))

-- ---- the sections of a report, as far as n
unfoldable pub reply_lines : ℕ → List ℕ → List ℕ → List ℕ
reply_lines zero values marks = []
reply_lines (suc n) values marks = reply_lines n values marks ++ reply_line n (get_or values n 0) (get_or marks n 0)

unfoldable pub order_lines : ℕ → List ℕ → List ℕ
order_lines zero order = []
order_lines (suc n) order = order_lines n order ++ order_line (get_or order n 0)

-- "ascending"
unfoldable pub word_lines : ℕ → List ℕ → List ℕ → List ℕ
word_lines zero words named = []
word_lines (suc n) words named = word_lines n words named ++ word_line n (get_or words n 0) (get_or named n 0)

-- "then the counts"
unfoldable pub count_lines : ℕ → ℕ → ℕ → List ℕ
count_lines accesses merges rounds =
    line (bytes_of "access" ∷ decimal accesses ∷ []) ++ line (bytes_of "merge" ∷ decimal merges ∷ []) ++ line (bytes_of "rounds" ∷ decimal rounds ∷ [])

-- ---- a report
-- R requests with their values and marks, n order places, 256 words and which of them are named, and the counts
unfoldable pub accepted_text : ℕ → List ℕ → List ℕ → ℕ → List ℕ → List ℕ → List ℕ → ℕ → ℕ → ℕ → List ℕ
accepted_text R values marks n order words named accesses merges rounds =
    reply_lines R values marks ++ order_lines n order ++ word_lines 256 words named ++ count_lines accesses merges rounds

-- "A refused trace prints one line, `refused`, number, offset"
unfoldable pub refused_text : ℕ → ℕ → List ℕ
refused_text number offset = line (bytes_of "refused" ∷ decimal number ∷ decimal offset ∷ [])
