-- `add_merge` meets its contract: one more, in its own word.
use Rattle.store.proofs.Shaped.{merge-added}
use Rattle.store.proofs.shape.add_merge.Goals as goal

pub returns : goal.returns
returns c = merge-added c.args.m.now c.told-m
