-- `issue` meets its contract: no room, refused, or moved.
use native.Mathlib.Omega.{arith}
use Rattle.shown.specs.Inner.Reached.{single}
use Rattle.requests.proofs.Onward.{Going, going-may, full-moves, source-filled, refused-moves, issue-goes, issued-moves}
use Rattle.requests.proofs.issue.Goals as goal
use Rattle.requests.proofs.issue.Goals.{After-position_of-to}

goes : (c : After-position_of-to) → Going c.args.m.now (single 0 0 c.args.e) 0 c.args.e c.next_of-t.result c.position_of-to.result
goes c = issue-goes c.requires.ready c.requires.e_bound.1 c.next_of-t.ensures c.position_of-to.ensures.0

pub returns-then-is_full : goal.returns-then-is_full
returns-then-is_full c = full-moves (goes (goal.at.returns-then-is_full c).After-position_of-to) c.is_full.ensures c.if-is_full.true

pub arrive_at-requires : goal.arrive_at-requires
arrive_at-requires c = going-may (goes (goal.at.arrive_at-requires c).After-position_of-to) (omega arith) c.position_of-to.ensures.1

pub replace_next-requires-clause-nonzero : goal.replace_next-requires-clause-nonzero
replace_next-requires-clause-nonzero c = source-filled (goes (goal.at.replace_next-requires-clause-nonzero c).After-position_of-to) c.arrive_at.ensures

pub returns-then-arrive_at : goal.returns-then-arrive_at
returns-then-arrive_at c =
    issued-moves (goes (goal.at.returns-then-arrive_at c).After-position_of-to) c.arrive_at.ensures c.if-arrive_at.true c.after_of-after.ensures
    c.replace_next.ensures

pub returns-else-arrive_at : goal.returns-else-arrive_at
returns-else-arrive_at c = refused-moves (goes (goal.at.returns-else-arrive_at c).After-position_of-to) c.arrive_at.ensures c.if-arrive_at.false
