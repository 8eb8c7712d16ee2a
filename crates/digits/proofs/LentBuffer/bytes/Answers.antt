-- `LentBuffer::bytes` meets its contract: they are copied over a part of the buffer.
use mathlib.Core.Path.{refl}
use Rattle.digits.proofs.Buffer.{part-set}
use Rattle.digits.proofs.LentBuffer.bytes.Goals as goal

pub returns : goal.returns
returns c = record { lent = refl; wrote = record { bytes = rw c.copy_from_slice.ensures.after (part-set _ _ _ c.requires); behind = refl } }
