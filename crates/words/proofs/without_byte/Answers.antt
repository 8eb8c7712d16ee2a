-- `words::without_byte` meets its contract, by `removed-without`.
use Rattle.std.proofs.Common.{◌*◌, ◌^◌, ◌<◌, arith}
use Rattle.words.proofs.Written.{one-pos, removed-fits, removed-without}
use Rattle.words.proofs.without_byte.Goals as goal

pub nonzero_rem-result : goal.nonzero_rem-result
nonzero_rem-result c = one-pos (c.args.i * 8) (omega arith)

pub overflow_add-result : goal.overflow_add-result
overflow_add-result c = let f : c.args.w < 2 ^ 64 = omega arith in record { fits = removed-fits c.args.w c.args.i c.requires f }

pub returns : goal.returns
returns c = let f : c.args.w < 2 ^ 64 = omega arith in removed-without c.args.w c.args.i c.requires f
