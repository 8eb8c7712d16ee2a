-- `return_step` meets its contract: by the oldest reply, and the oldest of its records.
use Rattle.replies.proofs.Shape.{replies-fit, waits-fit}
use Rattle.replies.proofs.Returned.{length-loaded, found_within, lower-returns, split-returns}
use Rattle.replies.proofs.return_step.Goals as goal

pub oldest-t-requires-clause-nonzero : goal.oldest-t-requires-clause-nonzero
oldest-t-requires-clause-nonzero c =
    (c.requires.nonzero, replies-fit c.requires.ready.stands _ _)

pub load_waits-waits-requires-clause-position_len_bound : goal.load_waits-waits-requires-clause-position_len_bound
load_waits-waits-requires-clause-position_len_bound c =
    (waits-fit c.requires.ready.stands).few _ _

pub split-requires-clause-held_pairs : goal.split-requires-clause-held_pairs
split-requires-clause-held_pairs c =
    let w = c.load_waits-waits.ensures in
    (w.1, found_within _ _ _ c.in-Some.ensures, length-loaded _ w.0)

pub returns-in-Some : goal.returns-in-Some
returns-in-Some c =
    split-returns c.args.m.now _ _ _ c.requires.level_nonzero.0 c.requires.level_nonzero.1 c.requires.nonzero c.oldest-t.ensures _
    c.load_waits-waits.ensures.0 _ c.in-Some.ensures c.split.ensures

pub returns-in-None : goal.returns-in-None
returns-in-None c =
    lower-returns c.args.m.now _ _ _ c.requires.level_nonzero.0 c.requires.level_nonzero.1 c.requires.nonzero c.oldest-t.ensures _
    c.load_waits-waits.ensures.0 c.in-None.ensures c.lower.ensures
