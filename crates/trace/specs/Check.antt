-- What a trace is told: document 01, "What a trace is told".
use Rattle.std.specs.Prelude.{ℕ, zero, suc, List, length, ltb}
use Rattle.lists.specs.Choice.{choose}
use Rattle.trace.specs.Item.{Items, none, after}
use Rattle.trace.specs.Records.{Records, done, broken, next, records}
use Rattle.trace.specs.Refusals.{fault}

-- refused with a number, after the items before the faulty record; or accepted with its items
pub data Verdict : Type 0 where
  refused : ℕ → Items → Verdict
  accepted : Items → Verdict

-- the items that stand before the fault, or all
abbrev pub items_of : Verdict → Items
items_of (refused n before) = before
items_of (accepted xs) = xs

-- "no record at all"
unfoldable pub ended : Items → Verdict
ended none = refused 4 none
ended (after before x) = accepted (after before x)

-- a faulty record decides; else the rest does
unfoldable pub decide : ℕ → Items → Verdict → Verdict
decide zero before rest = rest
decide (suc n) before rest = refused (suc n) before

-- "record by record, the first faulty record deciding": the items before, and the records that follow
unfoldable pub check_records : Items → Records → Verdict
check_records before done = ended before
check_records before (broken n) = refused n before
check_records before (next x rest) = decide (fault before x) before (check_records (after before x) rest)

-- "Order: 10; then record by record"
unfoldable pub check : List ℕ → Verdict
check trace = choose (ltb 65536 (length trace)) (refused 10 none) (check_records none (records trace))
