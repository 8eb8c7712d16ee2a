-- `words::one_less` meets its contract, by `less-digits`.
use Rattle.std.proofs.Common.{◌^◌, ◌<◌, refl, arith}
use Rattle.words.proofs.Written.{less-within, less-digits}
use Rattle.words.proofs.one_less.Goals as goal

pub overflow_sub-result : goal.overflow_sub-result
overflow_sub-result c = let f : c.args.row < 2 ^ 64 = omega arith in less-within 4 16 c.args.row c.args.p refl c.requires.0 f c.requires.1

pub returns : goal.returns
returns c = let f : c.args.row < 2 ^ 64 = omega arith in less-digits 4 16 c.args.row c.args.p refl c.requires.0 f c.requires.1
