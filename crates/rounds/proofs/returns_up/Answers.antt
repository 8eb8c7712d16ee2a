-- `returns_up` meets its contract. The loop's invariant: the rows below the level were taken.
use native.Mathlib.Omega.{arith}
use Rattle.event.proofs.Steps.{returns-fit}
use Rattle.rounds.proofs.Whole.{risen-begins, risen-ready, risen-level, risen-goes, risen-ends}
use Rattle.rounds.proofs.returns_up.Goals as goal

pub loop-level-init : goal.loop-level-init
loop-level-init c = risen-begins c.requires

pub at_each_busy-requires-clause-ready_with : goal.at_each_busy-requires-clause-ready_with
at_each_busy-requires-clause-ready_with c = risen-ready c.loop-level.invariant

pub at_each_busy-requires-clause-level_value : goal.at_each_busy-requires-clause-level_value
at_each_busy-requires-clause-level_value c =
    let level = risen-level c.loop-level.invariant (omega (arith, c.loop-level-test.true, c.levels-level-end.ensures)) in
    returns-fit _ _ level.0 level.1

pub loop-level-preserved : goal.loop-level-preserved
loop-level-preserved c = risen-goes c.loop-level.invariant (omega (arith, c.loop-level-test.true, c.levels-level-end.ensures)) c.at_each_busy.ensures

pub returns-2 : goal.returns-2
returns-2 c =
    let k = c.levels-level-end.ensures in
    let last = risen-goes c.loop-level.invariant (omega (arith, c.loop-level-test.true, k)) c.at_each_busy.ensures in
    risen-ends last (omega (arith, k))

pub returns : goal.returns
returns c = risen-ends c.loop-level.invariant (omega (arith, c.loop-level.invariant.inside, c.loop-level-test.false, c.levels-level-end.ensures))
