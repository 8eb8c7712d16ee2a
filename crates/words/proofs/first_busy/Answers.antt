-- `words::first_busy` meets its contract, by `first-busy`.
use Rattle.std.proofs.Common.{◌^◌, ◌<◌, le_trans, lt_of_le_of_lt, div-le_self, arith, lit<}
use lib.Count.{trailing_le}
use Rattle.words.proofs.Zeros.{first-busy}
use Rattle.words.proofs.first_busy.Goals as goal

pub overflow_cast-result : goal.overflow_cast-result
overflow_cast-result c = record { fits = lt_of_le_of_lt (le_trans (div-le_self _ 4) (trailing_le 64 _)) (lit< tt) }

pub returns : goal.returns
returns c =
    let f : c.args.row < 2 ^ 64 = omega arith in
    first-busy c.args.row f c.requires
