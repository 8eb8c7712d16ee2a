-- `replace_next` meets its contract: a queue of one, which was one before, or of none.
use Rattle.store.proofs.Queued.{next-filled, next-again, next-none}
use Rattle.store.proofs.queues.replace_next.Goals as goal

pub returns-then-n-m : goal.returns-then-n-m
returns-then-n-m c =
    let had = next-filled c.args.m.now c.args.e c.requires.e_bound c.requires.nonzero in
    next-again c.args.m.now c.args.e c.requires.e_bound c.told-m c.args.n c.requires.m_bound c.if-n-m.true had

pub returns : goal.returns
returns c = next-none c.args.m.now c.args.e c.requires.e_bound c.told-m c.args.n _ c.if-n-m.false c.with_length.ensures
