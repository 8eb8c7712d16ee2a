-- `number_told` meets its contract.
use Rattle.std.proofs.Common.{rules, ◌≡◌, ◌+◌, sym, ◌∙◌, arith, Err}
use Rattle.lines.specs.Inner.Told.{reason_of}
use Rattle.lines.proofs.Numbers.{error-told, too-large-told, value-told}
use Rattle.lines.proofs.field.number_told.Goals as goal

pub returns-in_err-n : goal.returns-in_err-n
returns-in_err-n c =
    let gives : c.from_residual.result ≡ Err (reason_of c.in_err-n.field-0.0) = search rules in
    gives ∙ error-told (c.args.largest + 1) _ _ (omega arith) (sym c.in_err-n.was ∙ c.number_in.ensures)

pub returns-then-n-largest : goal.returns-then-n-largest
returns-then-n-largest c = too-large-told _ _ _ (sym c.in_ok-n.was ∙ c.number_in.ensures) c.if-n-largest.true

pub returns : goal.returns
returns c = value-told _ _ _ (sym c.in_ok-n.was ∙ c.number_in.ensures) c.if-n-largest.false
