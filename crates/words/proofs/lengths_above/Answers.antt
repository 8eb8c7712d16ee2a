-- `words::lengths_above` meets its contract, by `above-lengths`.
use Rattle.std.proofs.Common.{◌^◌, ◌<◌, arith}
use Rattle.words.proofs.Written.{above-lengths}
use Rattle.words.proofs.lengths_above.Goals as goal

pub returns : goal.returns
returns c = let f : c.args.row < 2 ^ 64 = omega arith in above-lengths c.args.row c.args.p c.requires f
