-- `pop` meets its contract: the length alone.
use Rattle.std.proofs.Common.{rules, ◌≡◌}
use Rattle.store.specs.Inner.Kinds.{lengths_of}
use Rattle.store.proofs.Queued.{kind-popped}
use Rattle.store.proofs.queues.pop.Goals as goal

pub returns : goal.returns
returns g c =
    let at : c.LENGTHS.result ≡ lengths_of g.T.Queues.kind = search rules in
    rw at (kind-popped g.T.Queues.kind c.args.m.now c.told-m c.args.level c.args.position c.requires.level_bound _ c.requires.nonzero (rw at at c.one_less.ensures))
