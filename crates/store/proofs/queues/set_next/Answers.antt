-- `set_next` meets its contract: a queue of one, which was none or was one before, or of none.
use Rattle.store.proofs.Queued.{next-none}
use Rattle.store.proofs.queues.set_next.Goals as goal

pub returns : goal.returns
returns c = next-none c.args.m.now c.args.e c.requires.e_bound c.told-m c.args.n _ c.if-n-m.false c.with_length.ensures
