-- `LentBuffer::name` meets its contract: one by one.
use native.Mathlib.Omega.{arith}
use lib.ListN.{length-take}
use Rattle.std.proofs.lemmas.List.{take_more, take_all}
use Rattle.digits.proofs.Buffer.{writes_then, size-kept}
use Rattle.digits.proofs.LentBuffer.name.Goals as goal

pub byte-requires : goal.byte-requires
byte-requires c =
    let w = c.loop-c.invariant in
    omega (arith, size-kept w, w.wrote.behind, length-take c.loop-c.c-index c.args.name.now, c.requires)

pub loop-c-preserved : goal.loop-c-preserved
loop-c-preserved c = rw (take_more c.args.name.now c.loop-c.c-index 0 c.loop-c-test.true) (writes_then c.loop-c.invariant c.byte.ensures)

pub returns : goal.returns
returns c = rw (take_all c.loop-c.c-index c.args.name.now c.loop-c-test.false) at c.loop-c.invariant
