-- `set_after` meets its contract: a head with another next request.
use Rattle.store.proofs.Tagged.{after-set}
use Rattle.store.proofs.tags.set_after.Goals as goal

pub returns : goal.returns
returns c =
    after-set c.args.m.now c.told-m c.args.t c.requires.0 c.args.n c.with_after.result c.requires.1 c.with_after.ensures
