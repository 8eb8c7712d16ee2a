-- `split_field` meets its contract.
use Rattle.std.proofs.Common.{rules, ℕ, List, ◌≡◌, ◌≢◌, ◌-◌, take_while, sym, ◌∙◌, ap, subst, arith, length, take, drop}
use Rattle.lines.specs.Said.{leading, is_space, in_field, past_spaces}
use Rattle.lines.proofs.Spans.{leading_while, leading-within, spaces-passed, fields-none, fields-some}
use Rattle.lines.proofs.bounds.split_field.Goals as goal

-- how long the field is that stands behind the spaces of a line
field-long : (line : List ℕ) (n : ℕ) {begun : List ℕ} → begun ≡ past_spaces line → n ≡ length (take_while in_field begun) → n ≡ leading in_field (past_spaces line)
field-long line n passed counted = counted ∙ ap (λ (s : List ℕ). length (take_while in_field s)) passed ∙ leading_while in_field (past_spaces line)

pub slice_bounds-begun-count : goal.slice_bounds-begun-count
slice_bounds-begun-count c = omega (arith, c.leading_spaces.ensures, leading_while is_space c.args.line.now, leading-within is_space c.args.line.now)

pub slice_bounds-begun-start : goal.slice_bounds-begun-start
slice_bounds-begun-start c = omega (arith, c.leading_spaces.ensures, leading_while is_space c.args.line.now, leading-within is_space c.args.line.now)

pub returns-then-is_empty-clause-split : goal.returns-then-is_empty-clause-split
returns-then-is_empty-clause-split c =
    let passed = spaces-passed c.args.line.now c.leading_spaces.result c.leading_spaces.ensures in
    fields-none _ (ap length (sym passed) ∙ search rules)

pub split_at-requires : goal.split_at-requires
split_at-requires c =
    let fields = take (length c.args.line.now - c.leading_spaces.result) (drop c.leading_spaces.result c.args.line.now) in
    omega (arith, c.field_length.ensures, leading_while in_field fields, leading-within in_field fields)

pub returns-clause-split : goal.returns-clause-split
returns-clause-split c =
    let passed = spaces-passed c.args.line.now c.leading_spaces.result c.leading_spaces.ensures in
    let some : length (past_spaces c.args.line.now) ≢ 0 = subst (λ (s : List ℕ). length s ≢ 0) passed (search rules) in
    let long = field-long c.args.line.now c.field_length.result passed c.field_length.ensures in
    fields-some _ some ∙ rw (c.split_at.ensures.front, c.split_at.ensures.back, passed, long)

pub returns-clause-stands : goal.returns-clause-stands
returns-clause-stands c =
    let passed = spaces-passed c.args.line.now c.leading_spaces.result c.leading_spaces.ensures in
    let long = field-long c.args.line.now c.field_length.result passed c.field_length.ensures in
    (rw (c.split_at.ensures.front, passed, long), rw (c.split_at.ensures.back, passed, long))
