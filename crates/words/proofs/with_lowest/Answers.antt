-- `words::with_lowest` meets its contract, by `pushed`.
use Rattle.std.proofs.Common.{arith}
use Rattle.words.proofs.Written.{pushed}
use Rattle.words.proofs.with_lowest.Goals as goal

pub returns : goal.returns
returns c = pushed c.args.w c.args.b (omega arith)
