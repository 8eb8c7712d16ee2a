-- `LentBuffer::number` meets its contract: the digits, then the byte behind them.
use mathlib.Core.List.{[], ◌∷◌}
use Rattle.digits.proofs.Buffer.{writes_then, room_behind}
use Rattle.digits.proofs.LentBuffer.number.Goals as goal

pub byte-requires : goal.byte-requires
byte-requires c = room_behind c.decimal.ensures (c.args.behind ∷ []) c.requires

pub returns : goal.returns
returns c = writes_then c.decimal.ensures c.byte.ensures
