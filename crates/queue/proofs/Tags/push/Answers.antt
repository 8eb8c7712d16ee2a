-- `queue::Tags::push` meets its contract: the new tag is the youngest.
use native.Mathlib.Omega.{arith}
use Rattle.queue.proofs.Laws.{tags-push}
use Rattle.queue.proofs.Tags.push.Goals as goal

pub returns : goal.returns
returns c =
    (tags-push c.args.self.items c.args.self.len c.requires c.with_lowest.ensures, omega arith)
