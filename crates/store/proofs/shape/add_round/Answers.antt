-- `add_round` meets its contract: one more, in its own word.
use Rattle.store.proofs.Shaped.{round-added}
use Rattle.store.proofs.shape.add_round.Goals as goal

pub returns : goal.returns
returns c = round-added c.args.m.now c.told-m
