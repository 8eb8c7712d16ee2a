-- `words::is_marked` meets its contract, by `bit_is`.
use Rattle.std.proofs.Common.{ℕ, eqb, ap}
use Rattle.words.proofs.Marks.{bit_is}
use Rattle.words.proofs.is_marked.Goals as goal

pub returns : goal.returns
returns c = ap (λ (d : ℕ). eqb d 1) (bit_is c.args.w c.args.i)
