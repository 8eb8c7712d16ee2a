-- `report::name_requests` meets its contract: after n turns the addresses of the first n requests are marked.
use Prim.Native.Nat.{◌-◌, ◌≤◌}
use Rattle.store.specs.Inner.Memory.{view}
use Rattle.report.specs.Inner.Names.{Marked}
use Rattle.report.proofs.name_requests.Given as goal

abbrev pub invariant-loop-tag : goal.invariant-loop-tag
invariant-loop-tag l = (l.tag ≤ l.n) × Marked (view l.m).fixed.address l.tag l.initial.named l.named

abbrev pub decreases-loop-tag : goal.decreases-loop-tag
decreases-loop-tag l = l.n - l.tag
