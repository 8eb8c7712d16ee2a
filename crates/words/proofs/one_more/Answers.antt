-- `words::one_more` meets its contract, by `more-digits`.
use Rattle.std.proofs.Common.{◌^◌, ◌<◌, refl, arith}
use Rattle.words.proofs.Written.{more-fits, more-digits}
use Rattle.words.proofs.one_more.Goals as goal

pub overflow_add-result : goal.overflow_add-result
overflow_add-result c =
    let f : c.args.row < 2 ^ 64 = omega arith in record { fits = more-fits 4 16 c.args.row c.args.p refl c.requires.0 f (omega (arith, c.requires.1)) }

pub returns : goal.returns
returns c = let f : c.args.row < 2 ^ 64 = omega arith in more-digits 4 16 c.args.row c.args.p refl c.requires.0 f (omega (arith, c.requires.1))
