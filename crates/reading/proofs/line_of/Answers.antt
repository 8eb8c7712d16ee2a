-- `line_of` meets its contract: line by line, until the item's line is found.
use Rattle.std.proofs.Common.{rules, ◌≡◌, length, Some, None, Ok}
use Rattle.std.specs.Result.{IsErr}
use Rattle.reading.specs.Inner.Walk.{LineNext}
use Rattle.reading.proofs.Walk.{sought-start, sought-skipped, sought-wrong, sought-found, sought-item, sought-end}
use Rattle.reading.proofs.Told.{told-item, told-skipped, told-err}
use Rattle.reading.proofs.line_of.Goals as goal

pub loop-number-init : goal.loop-number-init
loop-number-init c = (
  search rules,
  search rules,
  rw (c.into_iter-number-iterator.ensures.into_iter_gives, c.of-number-items.ensures.rest, c.of-number-items.ensures.passed) (sought-start _ _),
)

pub returns-then-left-eq0 : goal.returns-then-left-eq0
returns-then-left-eq0 c =
    let at = c.loop-number.number-iterator in
    let next : LineNext at.passed at.rest.now c.in-Some.number c.in-Some.line.now c.next.new.self.passed c.next.new.self.rest.now = search rules in
    let item : c.line_says.result ≡ Ok (Some c.in-Ok-Some.field-0-0) = search rules in
    sought-found next c.loop-number.invariant.2 (told-item c.line_says.ensures item).says_is c.if-left-eq0.true

pub loop-number-preserved-in-Some-line_says-2 : goal.loop-number-preserved-in-Some-line_says-2
loop-number-preserved-in-Some-line_says-2 c =
    let at = c.loop-number.number-iterator in
    let next : LineNext at.passed at.rest.now c.in-Some.number c.in-Some.line.now c.next.new.self.passed c.next.new.self.rest.now = search rules in
    let item : c.line_says.result ≡ Ok (Some c.in-Ok-Some.field-0-0) = search rules in
    (search rules, search rules, sought-item next c.loop-number.invariant.2 (told-item c.line_says.ensures item).says_is c.if-left-eq0.false)

pub loop-number-preserved-in-None-line_says-2 : goal.loop-number-preserved-in-None-line_says-2
loop-number-preserved-in-None-line_says-2 c =
    let at = c.loop-number.number-iterator in
    let next : LineNext at.passed at.rest.now c.in-Some.number c.in-Some.line.now c.next.new.self.passed c.next.new.self.rest.now = search rules in
    let none : c.line_says.result ≡ Ok None = search rules in
    (search rules, search rules, sought-skipped next c.loop-number.invariant.2 (told-skipped c.line_says.ensures none))

pub loop-number-preserved : goal.loop-number-preserved
loop-number-preserved c =
    let at = c.loop-number.number-iterator in
    let next : LineNext at.passed at.rest.now c.in-Some.number c.in-Some.line.now c.next.new.self.passed c.next.new.self.rest.now = search rules in
    let err : IsErr c.line_says.result = search rules in
    (search rules, search rules, sought-wrong next c.loop-number.invariant.2 (told-err c.line_says.ensures err).1)

pub returns : goal.returns
returns c =
    let ended : length c.loop-number.number-iterator.rest.now ≡ 0 = search rules in
    sought-end c.loop-number.invariant.2 ended
