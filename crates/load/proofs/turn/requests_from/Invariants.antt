-- `requests_from` meets its contract: request by request, as far as none is refused.
use Prim.Native.Nat.{◌+◌, ◌*◌, ◌-◌}
use lib.ListN.{length}
use Rattle.load.specs.Inner.Loop.{RequestsPassed}
use Rattle.load.proofs.turn.requests_from.Given as goal

abbrev pub invariant-loop-p : goal.invariant-loop-p
invariant-loop-p l = RequestsPassed l.s l.p l.n l.initial.m l.m

abbrev pub decreases-loop-p : goal.decreases-loop-p
decreases-loop-p l = length l.s - (l.p.at + 23 * l.n)
