-- `add_access` meets its contract: one more, in its own word.
use Rattle.store.proofs.Shaped.{access-added}
use Rattle.store.proofs.shape.add_access.Goals as goal

pub returns : goal.returns
returns c = access-added c.args.m.now c.told-m
