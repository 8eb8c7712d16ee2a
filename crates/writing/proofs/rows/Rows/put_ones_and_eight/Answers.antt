-- `put_ones_and_eight` meets its contract: the ones, then the eight bytes.
use native.Mathlib.Omega.{arith}
use Prim.Native.Nat.{◌*◌}
use Rattle.digits.proofs.Buffer.{writes_then}
use Rattle.writing.proofs.Bytes.{room-after, length_part}
use Rattle.writing.proofs.rows.Rows.put_ones_and_eight.Goals as goal

pub bytes-requires : goal.bytes-requires
bytes-requires c = rw c.ones.ensures (omega (arith, length_part c.args.ones (10 * c.args.i) c.args.self.bytes.now))

pub put_eight-requires : goal.put_eight-requires
put_eight-requires c =
    room-after c.bytes.ensures c.args.ones 8 (rw c.ones.ensures (length_part c.args.ones (10 * c.args.i) c.args.self.bytes.now c.requires.ones_in)) c.requires.room

pub returns : goal.returns
returns c = rw (← c.ones.ensures, ← c.eight.ensures) (writes_then c.bytes.ensures c.put_eight.ensures)
