-- `drain` meets its contract. The loop's invariant: the rounds so far came off the allowance.
use Prim.Native.Nat.{◌+◌, ◌-◌}
use mathlib.Core.Path.{◌≡◌}
use native.Mathlib.Omega.{arith}
use Rattle.rounds.proofs.Draining.{draining-stops, draining-spent, draining-few, draining-goes}
use Rattle.rounds.proofs.drain.Goals as goal

pub returns-then-all_answered : goal.returns-then-all_answered
returns-then-all_answered c = draining-stops c.loop.invariant c.all_answered.ensures c.if-all_answered.true

pub add_round-requires : goal.add_round-requires
add_round-requires c = draining-few c.loop.invariant c.round.ensures

pub loop-preserved : goal.loop-preserved
loop-preserved c =
    let next : c.args.allowed - c.loop.counter - 1 ≡ c.args.allowed - (c.loop.counter + 1) = omega arith in
    rw next at (draining-goes c.loop.invariant c.round.ensures c.add_round.ensures c.all_answered.ensures c.if-all_answered.false (omega arith))

pub returns : goal.returns
returns c = draining-spent c.loop.invariant (omega arith)
