-- The number that an item is refused with, given the items before it: document 01, "What a trace is told".
use Rattle.std.specs.Prelude.{ℕ, zero, suc, ◌^◌, Bool, not, length, ltb, leb, eqb}
use Rattle.lists.specs.Choice.{choose, both, within}
use Rattle.operation.specs.Operation.{operands_fit}
use Rattle.event.specs.Event.{event, drain, names_step}
use Rattle.trace.specs.Item.{Shape, Request, Item, shape, word, request, act, Items}
use Rattle.trace.specs.Table.{section}
use Rattle.trace.specs.Contents.{Contents, contents, given, last_section}

-- the number n where the test fails, 0 where it holds
abbrev pub unless : Bool → ℕ → ℕ
unless test n = choose test 0 n

-- the first number, where there is one; else the second
unfoldable pub or_else : ℕ → ℕ → ℕ
or_else zero m = m
or_else (suc n) m = suc n

-- "first record is no shape, a second shape, a section out of its order": section s after section `last`, 0 for none
unfoldable pub may_follow : ℕ → ℕ → Bool
may_follow last s = choose (eqb last 0) (eqb s 1) (both (ltb 1 s) (leb last s))

-- "k 1 to 4; queue room Q 1 to 4; wait room W 0 to 8"
unfoldable pub shape_fits : Shape → Bool
shape_fits s = both (within 1 s.k 4) (both (within 1 s.q 4) (leb s.w 8))

-- "engine not below N, operation above 3, or an operand that must be zero is not": none of them
unfoldable pub request_fits : ℕ → Request → Bool
request_fits k r = both (ltb r.engine (2 ^ k)) (operands_fit r.operation r.first r.second)

-- "5, 6, 9, 7, 8 as the kind has them"
unfoldable pub own_fault : Contents → Item → ℕ
own_fault c (shape s) = unless (shape_fits s) 5
own_fault c (word w) = unless (not (given c.words w.address)) 6
own_fault c (request r) = or_else (unless (ltb (length c.requests) 256) 9) (unless (request_fits c.shape.k r) 7)
own_fault c (act (event e)) = unless (names_step c.shape.k e) 8
own_fault c (act (drain rounds)) = 0

-- "4, then 5, 6, 9, 7, 8": the number that an item is refused with, 0 where it is not
unfoldable pub fault : Items → Item → ℕ
fault before x = or_else (unless (may_follow (last_section before) (section x)) 4) (own_fault (contents before) x)
