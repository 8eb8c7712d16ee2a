-- `collect` meets its contract: the oldest reply is taken away and its request marked.
use Rattle.replies.proofs.Shape.{replies-fit}
use Rattle.replies.proofs.Collected.{collected-open, collected}
use Rattle.replies.proofs.collect.Goals as goal

pub oldest-t-requires-clause-nonzero : goal.oldest-t-requires-clause-nonzero
oldest-t-requires-clause-nonzero c =
    (c.requires.e_bound.1, replies-fit c.requires.ready.stands _ _)

pub set_answered-requires : goal.set_answered-requires
set_answered-requires c =
    collected-open c.requires.ready _ _ c.requires.e_bound.1 c.oldest-t.ensures c.pop.ensures

pub returns : goal.returns
returns c =
    collected _ _ c.requires.e_bound.1 c.oldest-t.ensures c.pop.ensures c.set_answered.ensures
