-- `words::with_length` meets its contract, by `written-digits` of 4 bits.
use Rattle.std.proofs.Common.{◌^◌, ◌<◌, refl, arith}
use Rattle.words.specs.Inner.Digits.{digit}
use Rattle.words.proofs.Written.{taken, written-fits, written-digits}
use Rattle.words.proofs.with_length.Goals as goal

pub overflow_sub-result : goal.overflow_sub-result
unfolding digit
overflow_sub-result c = let f : c.args.row < 2 ^ 64 = omega arith in taken 4 16 c.args.row c.args.p refl c.requires.0 f

pub overflow_add-result : goal.overflow_add-result
unfolding digit
overflow_add-result c =
    let f : c.args.row < 2 ^ 64 = omega arith in record { fits = written-fits 4 16 c.args.row c.args.p refl c.requires.0 f c.args.n c.requires.1 }

pub returns : goal.returns
unfolding digit
returns c = let f : c.args.row < 2 ^ 64 = omega arith in written-digits 4 16 c.args.row c.args.p refl c.requires.0 f c.args.n c.requires.1
