-- `fill` meets its contract: line by line.
use Rattle.std.proofs.Common.{rules, ◌≡◌, length, sym, ◌∙◌, ap, Some, None, Ok, Err}
use Rattle.reading.specs.Text.{wrong_line}
use Rattle.reading.specs.Inner.Row.{SameLent}
use Rattle.reading.specs.Inner.Walk.{LineNext}
use Rattle.reading.proofs.Held.{holds-none}
use Rattle.reading.proofs.Walk.{walked_start, walked-skipped, walked-item, walked-wrong}
use Rattle.reading.proofs.Told.{told-skipped, told-wrong, told-item, items-read}
use Rattle.reading.proofs.fill.Goals as goal

pub loop-number-init : goal.loop-number-init
loop-number-init c = (
  search rules,
  search rules,
  search rules,
  rw (c.into_iter-number-iterator.ensures.into_iter_gives, c.of-number-items.ensures.rest, c.of-number-items.ensures.passed, c.requires)
      (walked_start _ _ (holds-none _)),
)

pub returns-in_err-said-clause-read : goal.returns-in_err-said-clause-read
returns-in_err-said-clause-read c =
    let at = c.loop-number.number-iterator in
    let next : LineNext at.passed at.rest.now c.in-Some.number c.in-Some.line.now c.next.new.self.passed c.next.new.self.rest.now = search rules in
    let w = c.in_err-said.field-0.0 in
    let wrong : c.line_says.result ≡ Err w.wrong = search rules in
    let number : w.number ≡ c.in-Some.number = search rules in
    let gives : c.from_residual.result ≡ Err w = search rules in
    let walked = walked-wrong next c.loop-number.invariant.3 (told-wrong c.line_says.ensures wrong) in
    rw gives (record {
      told = walked ∙ ap (λ n. wrong_line n w.wrong.reason w.wrong.place) (sym number);
      sizes = c.loop-number.invariant.3.kept.sizes;
    })

pub loop-number-preserved-in-Some-said : goal.loop-number-preserved-in-Some-said
loop-number-preserved-in-Some-said c =
    let at = c.loop-number.number-iterator in
    let next : LineNext at.passed at.rest.now c.in-Some.number c.in-Some.line.now c.next.new.self.passed c.next.new.self.rest.now = search rules in
    let item : c.line_says.result ≡ Ok (Some c.in-Some-said.kind) = search rules in
    let held = c.keep.ensures.kept.one_more _ _ c.loop-number.invariant.3.kept in
    let lent : SameLent c.args.rows.now c.keep.new.self = search rules in
    (search rules, search rules, lent, walked-item next c.loop-number.invariant.3 (told-item c.line_says.ensures item).says_is held)

pub loop-number-preserved : goal.loop-number-preserved
loop-number-preserved c =
    let at = c.loop-number.number-iterator in
    let next : LineNext at.passed at.rest.now c.in-Some.number c.in-Some.line.now c.next.new.self.passed c.next.new.self.rest.now = search rules in
    let none : c.line_says.result ≡ Ok None = search rules in
    (search rules, search rules, c.loop-number.invariant.2, walked-skipped next c.loop-number.invariant.3 (told-skipped c.line_says.ensures none))

pub returns-clause-read : goal.returns-clause-read
returns-clause-read c =
    let ended : length c.loop-number.number-iterator.rest.now ≡ 0 = search rules in
    record { told = items-read c.loop-number.invariant.3 ended; sizes = c.loop-number.invariant.3.kept.sizes }
