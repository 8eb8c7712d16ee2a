-- The walk over the records of an accepted trace: what is written when it has come to an offset.
use Rattle.std.specs.Prelude.{ℕ, ◌*◌, ◌≤◌, ◌≡◌, List, length, drop}
use Rattle.digits.specs.Inner.Buffer.{WritesWithin}
use Rattle.digits.specs.declared.LentBuffer.{LentBuffer}
use Rattle.trace.specs.Item.{Items}
use Rattle.trace.specs.Records.{records}
use Rattle.trace.specs.Check.{accepted, items_of, check_records, check}
use Rattle.listing.specs.Listing.{item_lines}

-- a trace that is accepted, with its items
pub record IsAccepted (s : List ℕ) : Type 0 where
  pub short : length s ≤ 65536
  pub verdict : check s ≡ accepted (items_of (check s))

-- the lines of the items before offset `at` stand in the buffer, four bytes for each of their records at most; the rest of the trace decides
pub record ListedTo (s : List ℕ) (before : LentBuffer) (at : ℕ) (after : LentBuffer) : Type 0 where
  pub items : Items
  pub inside : at ≤ length s
  pub verdict : check s ≡ check_records items (records (drop at s))
  pub wrote : WritesWithin (4 * at) before (item_lines items) after
