-- `fields_say` meets its contract: field after field, as far as each is there and has a number.
use Rattle.std.proofs.Common.{rules, ◌≡◌, [], ◌∷◌, ◌+◌, sym, ◌∙◌, arith, add-one, Ok, Err}
use Rattle.lines.specs.Said.{fields}
use Rattle.lines.proofs.Rows.{few-fields}
use Rattle.lines.proofs.Fields.{fields-start, fields-missing, fields-bad, fields-more, fields-extra, fields-all}
use Rattle.lines.proofs.fields_say.Goals as goal

pub loop-place-init : goal.loop-place-init
loop-place-init c = fields-start _ _ _ c.told-values

pub returns-in_default : goal.returns-in_default
returns-in_default c =
    let none : fields c.loop-place.rest.now ≡ [] = search rules in
    rw add-one (fields-missing _ _ c.loop-place.invariant (omega (arith, c.loop-place-test.true, c.field_count-count.ensures)) none)

pub returns-in_err-values : goal.returns-in_err-values
returns-in_err-values c =
    let next : fields c.loop-place.rest.now ≡ c.in-Some.field.now ∷ fields c.in-Some.behind.now = search rules in
    let w = c.in_err-values.field-0.0 in
    let bad : c.field_told.result ≡ Err w.reason = search rules in
    let at : w.place ≡ c.loop-place.place-counter + 1 = search rules in
    let gives : c.from_residual.result ≡ Err w = search rules in
    rw gives (fields-bad _ _ c.loop-place.invariant _ _ w (omega (arith, c.loop-place-test.true, c.field_count-count.ensures)) next
    (at ∙ add-one _) (sym bad ∙ c.field_told.ensures))

pub offset_bounds-values-place : goal.offset_bounds-values-place
offset_bounds-values-place c = omega (arith, c.loop-place-test.true, c.field_count-count.ensures, few-fields c.args.kind)

pub bounds-values-place : goal.bounds-values-place
bounds-values-place c = omega (arith, c.loop-place-test.true, c.field_count-count.ensures, few-fields c.args.kind)

pub loop-place-preserved : goal.loop-place-preserved
loop-place-preserved c =
    let next : fields c.loop-place.rest.now ≡ c.in-Some.field.now ∷ fields c.in-Some.behind.now = search rules in
    let told : c.field_told.result ≡ Ok c.in_ok-values.field-0 = search rules in
    rw add-one (fields-more _ _ c.loop-place.invariant _ _ _ (omega (arith, c.loop-place-test.true, c.field_count-count.ensures)) next
    (sym told ∙ c.field_told.ensures))

pub overflow_add-result-in-Some-split_field : goal.overflow_add-result-in-Some-split_field
overflow_add-result-in-Some-split_field c = record { fits = omega (arith, c.field_count-count.ensures, few-fields c.args.kind) }

pub returns-in-Some-split_field : goal.returns-in-Some-split_field
returns-in-Some-split_field c =
    let all : c.loop-place.place-counter ≡ c.field_count-count.result = omega (arith, c.loop-place-test.false, c.loop-place.invariant.many, c.field_count-count.ensures) in
    let next : fields c.loop-place.rest.now ≡ c.in-Some-split_field.field-0.0.now ∷ fields c.in-Some-split_field.field-0.1.now = search rules in
    rw (add-one, ← all) (fields-extra _ _ c.loop-place.invariant (all ∙ c.field_count-count.ensures) _ _ next)

pub returns-in-None : goal.returns-in-None
returns-in-None c =
    let all : c.loop-place.place-counter ≡ c.field_count-count.result = omega (arith, c.loop-place-test.false, c.loop-place.invariant.many, c.field_count-count.ensures) in
    let none : fields c.loop-place.rest.now ≡ [] = search rules in
    fields-all _ _ c.loop-place.invariant (all ∙ c.field_count-count.ensures) none
