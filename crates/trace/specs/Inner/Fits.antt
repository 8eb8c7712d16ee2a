-- Items that fit their bytes, and items none of which is refused.
use Rattle.std.specs.Prelude.{ℕ, ◌<◌, ◌^◌, List, [], ◌∷◌, ◌≡◌}
use Rattle.trace.specs.Item.{Item, Items, none, after}
use Rattle.trace.specs.Table.{parts_of, row_of}
use Rattle.trace.specs.Refusals.{fault}

-- there is a number for each width, and it fits its bytes
pub data FieldsFit : List ℕ → List ℕ → Type 0 where
  no_field : FieldsFit [] []
  field_fits : {width field : ℕ} {widths fields : List ℕ} → field < 256 ^ width → FieldsFit widths fields → FieldsFit (width ∷ widths) (field ∷ fields)

-- each field fits its bytes
abbrev pub FitsBytes : Item → Type 0
FitsBytes x = FieldsFit (row_of x).widths (parts_of x).fields

-- and so of all items
pub data AllFitBytes : Items → Type 0 where
  none-fit : AllFitBytes none
  after-fit : {before : Items} {x : Item} → AllFitBytes before → FitsBytes x → AllFitBytes (after before x)

-- no item is refused
pub data Valid : Items → Type 0 where
  valid-none : Valid none
  valid-after : {before : Items} {x : Item} → Valid before → fault before x ≡ 0 → Valid (after before x)
