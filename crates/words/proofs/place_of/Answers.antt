-- `words::place_of` meets its contract, by whether a byte is marked.
use Rattle.std.proofs.Common.{arith}
use Rattle.words.proofs.Places.{place-none, place-some}
use Rattle.words.proofs.place_of.Goals as goal

pub returns-then-zeros-eq0 : goal.returns-then-zeros-eq0
returns-then-zeros-eq0 c = place-none c.args.w c.args.b (omega arith) (omega arith) c.if-zeros-eq0.true

pub returns : goal.returns
returns c = place-some c.args.w c.args.b (omega arith) (omega arith) c.if-zeros-eq0.false
