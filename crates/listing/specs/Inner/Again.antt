-- A line without its newline, and what its fields are, so that they are read as they were written.
use Rattle.std.specs.Prelude.{ℕ, ◌<◌, List, [], ◌∷◌, ◌++◌, length}
use Rattle.lists.specs.Search.{All}
use Rattle.trace.specs.Item.{Item}
use Rattle.trace.specs.Table.{Parts, parts_of}
use Rattle.lines.specs.Forms.{name_of}
use Rattle.listing.specs.Listing.{shown_from}

-- fields, each with a space in front of it
unfoldable pub following : List (List ℕ) → List ℕ
following [] = []
following (f ∷ fs) = 32 ∷ (f ++ following fs)

-- the line of an item, but for its newline
unfoldable pub parts_unended : Parts → List ℕ
parts_unended p = name_of p.row.kind ++ following (shown_from p.row.kind 0 p.fields)

abbrev pub unended : Item → List ℕ
unended x = parts_unended (parts_of x)

-- a field is not empty, and each of its bytes is above a space's, so none is a space or a newline
pub record Plain (f : List ℕ) : Type 0 where
  pub some : 0 < length f
  pub above : All (λ c. 32 < c) f
