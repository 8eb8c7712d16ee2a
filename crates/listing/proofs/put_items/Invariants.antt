-- `listing::put_items` meets its contract: a line for each record.
use Prim.Native.Nat.{◌-◌}
use lib.ListN.{length}
use Rattle.listing.specs.Inner.Walk.{ListedTo}
use Rattle.listing.proofs.put_items.Given as goal

abbrev pub invariant-loop-record : goal.invariant-loop-record
invariant-loop-record l = ListedTo l.trace l.fn.out l.at l.out

abbrev pub decreases-loop-record : goal.decreases-loop-record
decreases-loop-record l = length l.trace - l.at
