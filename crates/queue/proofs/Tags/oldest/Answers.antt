-- `queue::Tags::oldest` meets its contract: the oldest of n tags has n - 1 below it.
use Rattle.queue.proofs.Laws.{tags-oldest}
use Rattle.queue.proofs.Tags.oldest.Goals as goal

pub returns : goal.returns
returns c = rw c.byte_at.ensures (tags-oldest c.args.self.items c.args.self.len c.requires.len_nonzero)
