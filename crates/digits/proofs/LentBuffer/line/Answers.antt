-- `LentBuffer::line` meets its contract: the name, the numbers one by one, the newline.
use native.Mathlib.Omega.{arith}
use Rattle.digits.specs.Numeral.{decimal}
use Rattle.digits.proofs.Buffer.{writes_then, room_behind}
use Rattle.digits.proofs.Lines.{number-fits, number_more, newline-fits, line-ends}
use Rattle.digits.proofs.LentBuffer.line.Goals as goal

pub byte-requires : goal.byte-requires
byte-requires c = omega (arith, number-fits _ _ _ c.loop-n.invariant c.loop-n-test.true c.requires)

pub decimal-requires : goal.decimal-requires
decimal-requires c = room_behind c.byte.ensures (decimal _) (number-fits _ _ _ c.loop-n.invariant c.loop-n-test.true c.requires)

pub loop-n-preserved : goal.loop-n-preserved
loop-n-preserved c = number_more _ _ _ c.loop-n.invariant c.loop-n-test.true (writes_then c.byte.ensures c.decimal.ensures)

pub byte-requires-2 : goal.byte-requires-2
byte-requires-2 c = newline-fits _ _ _ c.loop-n.invariant c.loop-n-test.false c.requires

pub returns : goal.returns
returns c = line-ends _ _ _ c.loop-n.invariant c.loop-n-test.false c.byte-2.ensures
