-- `put_row` meets its contract: kind by kind, what is stored.
use Rattle.std.proofs.Common.{arith}
use Rattle.reading.proofs.Put.{row_room, put_three_bytes, put_word, put-request, put-drain}
use Rattle.reading.proofs.Put.{three-bytes-low, word_low, request-low, drain-low}
use Rattle.reading.proofs.row.LentRows.put_row.Goals as goal

pub put_three-requires-clause-values_bound : goal.put_three-requires-clause-values_bound
put_three-requires-clause-values_bound c = three-bytes-low c.requires.may c.in-Shape.is

pub put_three-requires-in-Request-clause-values_bound : goal.put_three-requires-in-Request-clause-values_bound
put_three-requires-in-Request-clause-values_bound c = request-low c.requires.may c.in-Request.is

pub overflow_cast-self : goal.overflow_cast-self
overflow_cast-self c = omega (arith, drain-low c.requires.may c.in-Drain.is)

pub returns-in-Shape-clause-row : goal.returns-in-Shape-clause-row
returns-in-Shape-clause-row c = rw c.put_three.ensures (put_three_bytes _ _ _ _ _ c.requires.inside c.into.ensures c.in-Shape.is)

pub returns-in-Word-clause-row : goal.returns-in-Word-clause-row
returns-in-Word-clause-row c = let put = c.put_word.ensures in
    rw (put.bytes_after, put.words_after) (put_word _ _ _ _ _ c.requires.inside c.into.ensures c.in-Word.is)

pub returns-in-Request-clause-row : goal.returns-in-Request-clause-row
returns-in-Request-clause-row c = rw (c.put_three-in-Request.ensures, c.put_operands.ensures)
    (put-request _ _ _ _ _ c.requires.inside c.into.ensures c.in-Request.is)

pub returns-in-Drain-clause-row : goal.returns-in-Drain-clause-row
returns-in-Drain-clause-row c = put-drain _ _ _ _ _ c.requires.inside c.into.ensures c.in-Drain.is

pub put_word-requires : goal.put_word-requires
put_word-requires c = let room = row_room _ _ c.requires.inside in
    (omega (arith, room.1), omega (arith, room.2), word_low c.requires.may c.in-Word.is)
