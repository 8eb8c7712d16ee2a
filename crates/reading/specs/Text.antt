-- What a text of lines says: request No. 1 of document 02.
use Rattle.std.specs.Prelude.{ℕ, zero, suc, Bool, not, List, [], ◌∷◌, length, take, drop, eqb}
use Rattle.lists.specs.Choice.{choose}
use Rattle.trace.specs.Item.{Item}
use Rattle.lines.specs.declared.Reason.{Reason}
use Rattle.lines.specs.Said.{leading, Said, skipped, says, wrong, line_says}

-- ---- lines
abbrev pub in_line : ℕ → Bool
in_line c = not (eqb c 10)

-- "the last line may lack its newline"; at most `most` lines, and a text of n bytes has no more than n
unfoldable pub lines_up_to : ℕ → List ℕ → List (List ℕ)
lines_up_to zero s = []
lines_up_to (suc most) s =
    choose (eqb (length s) 0) []
    (take (leading in_line s) s ∷ lines_up_to most (drop (suc (leading in_line s)) s))

unfoldable pub lines_of : List ℕ → List (List ℕ)
lines_of text = lines_up_to (length text) text

-- ---- what they say together
-- items, in the order of their lines; or the first line that is no item, counted from 1, why, and the field
pub data Read : Type 0 where
  items : List Item → Read
  wrong_line : ℕ → Reason → ℕ → Read

unfoldable pub push : Item → Read → Read
push x (items xs) = items (x ∷ xs)
push x (wrong_line line reason place) = wrong_line line reason place

-- what the line of a number says, and the rest behind it
unfoldable pub line_then : ℕ → Said → Read → Read
line_then line skipped rest = rest
line_then line (says x) rest = push x rest
line_then line (wrong reason place) rest = wrong_line line reason place

unfoldable pub read_from : ℕ → List (List ℕ) → Read
read_from line [] = items []
read_from line (l ∷ ls) = line_then line (line_says l) (read_from (suc line) ls)

-- "A line that is no item is told before anything of the list"
unfoldable pub text_says : List ℕ → Read
text_says text = read_from 1 (lines_of text)

-- the numbers of the lines that say items, one for each item
unfoldable pub item_then : ℕ → Said → List ℕ → List ℕ
item_then line skipped rest = rest
item_then line (says x) rest = line ∷ rest
item_then line (wrong reason place) rest = rest

unfoldable pub item_lines_from : ℕ → List (List ℕ) → List ℕ
item_lines_from line [] = []
item_lines_from line (l ∷ ls) = item_then line (line_says l) (item_lines_from (suc line) ls)

unfoldable pub item_lines : List ℕ → List ℕ
item_lines text = item_lines_from 1 (lines_of text)
