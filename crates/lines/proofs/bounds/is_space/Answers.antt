-- `is_space` meets its contract: the pattern has the three bytes.
use Rattle.std.proofs.Common.{arith}
use Rattle.lists.specs.Search.{some}
use Rattle.lines.specs.Said.{is_space}
use Rattle.lines.proofs.bounds.is_space.Goals as goal

pub returns-in-32 : goal.returns-in-32
unfolding is_space some
returns-in-32 c = grind arith

pub returns-in_default : goal.returns-in_default
unfolding is_space some
returns-in_default c = grind arith
