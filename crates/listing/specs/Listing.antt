-- The items of a trace as lines: request No. 1 of document 02, as the program `items` prints them.
use Rattle.std.specs.Prelude.{ℕ, suc, ◌*◌, ◌≤◌, ◌≡◌, List, [], ◌∷◌, ◌++◌, length, get_or, take, leb, Option, Some, None, IfSome}
use Rattle.lists.specs.Choice.{choose}
use Rattle.lists.specs.Over.{over}
use Rattle.digits.specs.Numeral.{decimal}
use Rattle.digits.specs.Line.{line}
use Rattle.text.specs.Text.{refused_text}
use Rattle.trace.specs.Item.{Item, Items, none, after}
use Rattle.trace.specs.Table.{Parts, parts_of, size}
use Rattle.trace.specs.Check.{Verdict, refused, accepted, check}
use Rattle.lines.specs.Forms.{name_of, names_at}

-- "`items` prints the names, one space between": the name of a number where it has one, else the number in decimal
unfoldable pub shown_from : ℕ → ℕ → List ℕ → List (List ℕ)
shown_from kind place [] = []
shown_from kind place (v ∷ vs) = get_or (names_at kind place) v (decimal v) ∷ shown_from kind (suc place) vs

-- "A line has the record's name and its fields in the record's order"
unfoldable pub parts_line : Parts → List ℕ
parts_line p = line (name_of p.row.kind ∷ shown_from p.row.kind 0 p.fields)

abbrev pub item_line : Item → List ℕ
item_line x = parts_line (parts_of x)

unfoldable pub item_lines : Items → List ℕ
item_lines none = []
item_lines (after before x) = item_lines before ++ item_line x

-- the items of an accepted trace; "a refused trace prints its one line"
unfoldable pub listed : Verdict → List ℕ
listed (refused n before) = refused_text n (size before)
listed (accepted xs) = item_lines xs

unfoldable pub listing : List ℕ → List ℕ
listing trace = listed (check trace)

-- ---- what the function promises, for every trace and every lent buffer
-- no line has more than four bytes for each of its record
abbrev pub listing_room : ℕ
listing_room = 4 * 65536

-- the text at the start of a buffer that has room for every listing, and its length; a smaller buffer stays as it is, and no length is told
pub record Listed (trace before : List ℕ) (r : Option ℕ) (after : List ℕ) : Type 0 where
  pub len_is : r ≡ choose (leb listing_room (length before)) (Some (length (listing trace))) None
  pub text-is : after ≡ choose (leb listing_room (length before)) (over (listing trace) before) before
  -- so that a caller may take the part that was written
  pub counts : IfSome r (λ len. (len ≤ length after) × (len ≡ length (take len after)))
