-- `module_step` meets its contract: nothing where the reply queue is full, and the oldest message taken otherwise.
use native.Mathlib.Omega.{arith}
use Rattle.replies.proofs.Shape.{requests-fit, waits-fit}
use Rattle.replies.proofs.Served.{level-fits, request-there, oldest-at, order-fits, access-room, served-full, served, Oldest}
use Rattle.replies.proofs.module_step.Goals as goal
use Rattle.replies.proofs.module_step.Goals.{After-oldest-t}

oldest : (c : After-oldest-t) → Oldest c.args.m.now c.args.words.now c.levels-k.result c.args.position c.oldest-t.result
oldest c = oldest-at c.requires.ready_with c.levels-k.ensures c.requires.position_bound.1 c.oldest-t.ensures
    (omega (arith, c.queue_room-q.ensures, c.count.ensures, c.if-q-count.false))

pub returns-then-q-count : goal.returns-then-q-count
returns-then-q-count c =
    served-full c.requires.ready_with _ c.levels-k.ensures _ (omega (arith, c.queue_room-q.ensures, c.count.ensures, c.if-q-count.true))

pub oldest-t-requires-clause-nonzero : goal.oldest-t-requires-clause-nonzero
oldest-t-requires-clause-nonzero c =
    let R = c.requires.ready_with in
    let k = c.levels-k.ensures in
    (request-there R _ k _ c.requires.position_bound.1, requests-fit R.stands _ _ (level-fits R _ k).0)

pub expand-requires-clause-waits_fit : goal.expand-requires-clause-waits_fit
expand-requires-clause-waits_fit c =
    waits-fit c.requires.ready_with.stands

pub expand-requires-clause-expansion_fits : goal.expand-requires-clause-expansion_fits
expand-requires-clause-expansion_fits c = order-fits (oldest (goal.at.expand-requires-clause-expansion_fits c).After-oldest-t)

pub add_access-requires : goal.add_access-requires
add_access-requires c = access-room (oldest (goal.at.add_access-requires c).After-oldest-t) c.expand.ensures

pub returns : goal.returns
returns c =
    let x = c.exchange-old.ensures in
    served (oldest (goal.at.returns c).After-oldest-t) c.expand.ensures _ c.add_access.ensures x.value x.words_after c.set_value.ensures
    c.push_reply.ensures c.pop.ensures
