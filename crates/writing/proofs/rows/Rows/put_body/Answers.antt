-- `put_body` meets its contract: kind by kind, the fields of the row's record.
use Prim.Native.Nat.{◌+◌, ◌*◌}
use mathlib.Core.Path.{◌∙◌}
use mathlib.Core.List.{◌++◌}
use mathlib.Core.Logic.{⊎_elim}
use native.Mathlib.Omega.{arith}
use lib.ListN.{get_or, take, drop, length-append}
use Rattle.digits.proofs.Buffer.{writes_nothing, writes_then}
use Rattle.trace.specs.Write.{bytes}
use Rattle.trace.proofs.Numbers.{length-bytes}
use Rattle.writing.specs.Inner.Lent.{lent}
use Rattle.writing.proofs.Bytes.{room-after, length_part}
use Rattle.writing.proofs.Bodies.{BodyIs, told_kind, body-shape, body-word, body-request, body-event, body-drain, no-body}
use Rattle.writing.proofs.rows.Rows.put_body.Goals as goal
use Rattle.writing.proofs.rows.Rows.put_body.Goals.{In-Shape, In-Request}

-- no kind of the table: no field
pub returns-in_default : goal.returns-in_default
returns-in_default c = rw (no-body (lent c.args.self) c.args.i (rw c.kind.ensures at c.in_default.ensures.1)).text-is (writes_nothing _)

-- ---- three numbers of one byte
three : (c : In-Shape) → BodyIs (lent c.args.self) c.args.i 3 (take 3 (drop (10 * c.args.i) c.args.self.bytes.now))
three c = let typed = c.args.self.typed in let inside = c.requires.row_in in
    ⊎_elim
    (λ e. body-shape typed inside (told_kind c.in-Ok.ensures c.kind.ensures e))
    (λ e. body-event typed inside (told_kind c.in-Ok.ensures c.kind.ensures e))
    c.in-Shape.is

pub bytes-requires : goal.bytes-requires
bytes-requires c =
    let long = length_part 3 (10 * c.args.i) c.args.self.bytes.now (omega arith) in
    rw c.ones.ensures (omega (arith, long, (three (goal.at.bytes-requires c).In-Shape).size))

pub returns-in-Shape : goal.returns-in-Shape
returns-in-Shape c = rw ((three (goal.at.returns-in-Shape c).In-Shape).text-is, ← c.ones.ensures) c.bytes.ensures

-- ---- and one of eight behind one
pub put_ones_and_eight-requires-clause-room : goal.put_ones_and_eight-requires-clause-room
put_ones_and_eight-requires-clause-room c =
    omega (arith, (body-word c.args.self.typed c.requires.row_in (told_kind c.in-Ok.ensures c.kind.ensures c.in-Word.is)).size)

pub returns-in-Word : goal.returns-in-Word
returns-in-Word c =
    rw (body-word c.args.self.typed c.requires.row_in (told_kind c.in-Ok.ensures c.kind.ensures c.in-Word.is)).text-is c.put_ones_and_eight.ensures

-- ---- two of eight behind three
request : (c : In-Request) → let a = c.args in
    BodyIs (lent a.self) a.i 19
    ((take 3 (drop (10 * a.i) a.self.bytes.now) ++ bytes 8 (get_or a.self.words.now (8 * a.i + 0) 0))
    ++ bytes 8 (get_or a.self.words.now (8 * a.i + 1) 0))
request c = body-request c.args.self.typed c.requires.row_in (told_kind c.in-Ok.ensures c.kind.ensures c.in-Request.is)

pub put_ones_and_eight-requires-in-Request-clause-room : goal.put_ones_and_eight-requires-in-Request-clause-room
put_ones_and_eight-requires-in-Request-clause-room c =
    omega (arith, (request (goal.at.put_ones_and_eight-requires-in-Request-clause-room c).In-Request).size)

pub put_eight-requires : goal.put_eight-requires
put_eight-requires c = let a = c.args in
    let ones = take 3 (drop (10 * a.i) a.self.bytes.now) in
    let first = bytes 8 (get_or a.self.words.now (8 * a.i + 0) 0) in
    let ones-long = length_part 3 (10 * a.i) a.self.bytes.now (omega arith) in
    room-after c.put_ones_and_eight-in-Request.ensures 11 8
    (length-append ones first ∙ omega (arith, ones-long, length-bytes 8 (get_or a.self.words.now (8 * a.i + 0) 0)))
    (omega (arith, (request (goal.at.put_eight-requires c).In-Request).size))

pub returns-in-Request : goal.returns-in-Request
returns-in-Request c =
    rw ((request (goal.at.returns-in-Request c).In-Request).text-is, ← c.eight.ensures) (writes_then c.put_ones_and_eight-in-Request.ensures c.put_eight.ensures)

-- ---- one of two bytes
pub put_two-requires : goal.put_two-requires
put_two-requires c = omega (arith, (body-drain c.args.self.typed c.requires.row_in (told_kind c.in-Ok.ensures c.kind.ensures c.in-Drain.is)).size)

pub returns-in-Drain : goal.returns-in-Drain
returns-in-Drain c =
    rw ((body-drain c.args.self.typed c.requires.row_in (told_kind c.in-Ok.ensures c.kind.ensures c.in-Drain.is)).text-is, ← c.two.ensures)
    c.put_two.ensures
