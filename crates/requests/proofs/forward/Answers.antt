-- `forward` meets its contract: no room, refused, or moved.
use native.Mathlib.Omega.{arith}
use Rattle.shown.specs.Inner.Reached.{single}
use Rattle.requests.proofs.Onward.{Going, levels-few, queue-few, going-may, full-moves, source-filled, refused-moves, forward-goes, forwarded-moves}
use Rattle.requests.proofs.forward.Goals as goal
use Rattle.requests.proofs.forward.Goals.{After-position_of-to}

goes : (c : After-position_of-to) →
    Going c.args.m.now (single 1 c.args.level c.args.position) c.args.level c.args.position c.oldest-t.result c.position_of-to.result
goes c = forward-goes c.requires.ready c.requires.level_nonzero.1 c.requires.nonzero c.oldest-t.ensures c.position_of-to.ensures.0

pub oldest-t-requires-clause-nonzero : goal.oldest-t-requires-clause-nonzero
oldest-t-requires-clause-nonzero c = (c.requires.nonzero, queue-few c.requires.ready _ _ c.requires.level_nonzero.0)

pub returns-then-is_full : goal.returns-then-is_full
returns-then-is_full c = full-moves (goes (goal.at.returns-then-is_full c).After-position_of-to) c.is_full.ensures c.if-is_full.true

pub arrive_at-requires : goal.arrive_at-requires
arrive_at-requires c =
    going-may (goes (goal.at.arrive_at-requires c).After-position_of-to) (omega (arith, levels-few c.requires.ready, c.requires.level_nonzero.1))
    c.position_of-to.ensures.1

pub pop-requires-clause-nonzero : goal.pop-requires-clause-nonzero
pop-requires-clause-nonzero c = source-filled (goes (goal.at.pop-requires-clause-nonzero c).After-position_of-to) c.arrive_at.ensures

pub returns-then-arrive_at : goal.returns-then-arrive_at
returns-then-arrive_at c =
    forwarded-moves (goes (goal.at.returns-then-arrive_at c).After-position_of-to) c.requires.level_nonzero.0 c.arrive_at.ensures c.if-arrive_at.true c.pop.ensures

pub returns-else-arrive_at : goal.returns-else-arrive_at
returns-else-arrive_at c = refused-moves (goes (goal.at.returns-else-arrive_at c).After-position_of-to) c.arrive_at.ensures c.if-arrive_at.false
