-- `LentBuffer::field` meets its contract: the field, then the byte behind it.
use mathlib.Core.List.{[], ◌∷◌}
use Rattle.digits.proofs.Buffer.{writes_then, room_behind}
use Rattle.digits.proofs.LentBuffer.field.Goals as goal

pub byte-requires : goal.byte-requires
byte-requires c = room_behind c.name.ensures (c.args.behind ∷ []) c.requires

pub returns : goal.returns
returns c = writes_then c.name.ensures c.byte.ensures
