-- `put` meets its contract: kind by kind, what the record leaves.
use mathlib.Core.Path.{ap}
use native.Mathlib.Omega.{arith}
use Rattle.trace.specs.Inner.Kinds.{number_of_kind}
use Rattle.trace.specs.Inner.Known.{word_in, request_in}
use Rattle.trace.proofs.Table.{says-word, says-request}
use Rattle.load.proofs.Keeps.{put_word, put-request, put_other}
use Rattle.load.proofs.put.put.Goals as goal

-- a word's body has its address and its value
pub bounds-b-0 : goal.bounds-b-0
bounds-b-0 c = omega (arith, (says-word c.args.r.body.now (ap number_of_kind c.in-Word.is) c.requires.right).long)

pub number8-requires : goal.number8-requires
number8-requires c = omega (arith, (says-word c.args.r.body.now (ap number_of_kind c.in-Word.is) c.requires.right).long)

pub put_request-requires : goal.put_request-requires
put_request-requires c = let three = ap number_of_kind c.in-Request.is in
    ((says-request c.args.r.body.now three c.requires.right).long, c.requires.k-low, c.requires.engine-below three, c.requires.few three)

pub returns-in-Word : goal.returns-in-Word
returns-in-Word c = let b = c.args.r.body.now in
    rw ((says-word b (ap number_of_kind c.in-Word.is) c.requires.right).is, c.put_word.ensures, c.number8.ensures)
    (put_word c.requires.words_size (word_in b))

pub returns-in-Request : goal.returns-in-Request
returns-in-Request c = let b = c.args.r.body.now in
    rw (says-request b (ap number_of_kind c.in-Request.is) c.requires.right).is (put-request c.requires.words_size (request_in b) _ c.put_request.ensures)

pub returns-in_default : goal.returns-in_default
returns-in_default c = put_other c.requires.words_size c.args.r.kind c.args.r.body.now c.in_default.not-Word c.in_default.not-Request c.requires.right
