-- `words::with_highest` meets its contract, by `highest-topped`.
use Rattle.std.proofs.Common.{◌*◌, arith}
use Rattle.words.proofs.Written.{one-pos, highest-fits, highest-topped}
use Rattle.words.proofs.with_highest.Goals as goal

pub nonzero_rem-result : goal.nonzero_rem-result
nonzero_rem-result c = one-pos (c.args.i * 8) (omega arith)

pub overflow_add-result : goal.overflow_add-result
overflow_add-result c = record { fits = highest-fits c.args.w c.args.i c.requires c.args.b (omega arith) }

pub returns : goal.returns
returns c = highest-topped c.args.w c.args.i c.requires c.args.b (omega arith)
