-- `words::with_mark` meets its contract, by `marked-bits`.
use Rattle.std.proofs.Common.{◌^◌, ◌<◌, arith}
use Rattle.words.proofs.Marks.{marked-fits, marked-bits}
use Rattle.words.proofs.with_mark.Goals as goal

pub overflow_add-result : goal.overflow_add-result
overflow_add-result c = let f : c.args.w < 2 ^ 64 = omega arith in record { fits = marked-fits c.args.w c.args.i c.requires.0 f c.requires.1 }

pub returns : goal.returns
returns c = let f : c.args.w < 2 ^ 64 = omega arith in marked-bits c.args.w c.args.i c.requires.0 f c.requires.1
