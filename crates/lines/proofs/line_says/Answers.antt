-- `line_says` meets its contract: what stands first decides, then the fields of the record.
use Rattle.std.proofs.Common.{rules, ◌≡◌, [], ◌∷◌, sym, ◌∙◌, Some, None, Err}
use Rattle.lines.specs.Said.{fields}
use Rattle.lines.specs.declared.Reason.TheVariants.{Name}
use Rattle.lines.proofs.Lines.{comment-read, nothing_read, no-name-read, kind-read}
use Rattle.lines.proofs.line_says.Goals as goal

pub returns-then-is_comment : goal.returns-then-is_comment
returns-then-is_comment c = comment-read _ c.told-values (sym c.is_comment.ensures ∙ c.if-is_comment.true)

pub returns-in_default : goal.returns-in_default
returns-in_default c =
    let none : fields c.args.line.now ≡ [] = search rules in
    nothing_read _ c.told-values (sym c.is_comment.ensures ∙ c.if-is_comment.false) none

pub returns-in_err-kind : goal.returns-in_err-kind
returns-in_err-kind c =
    let next : fields c.args.line.now ≡ c.in-Some.name.now ∷ fields c.in-Some.rest.now = search rules in
    let none : c.kind_named.result ≡ None = search rules in
    let gives : c.from_residual.result ≡ Err (record { reason = Name; place = 0 }) = search rules in
    rw gives (no-name-read _ c.told-values _ _ (sym c.is_comment.ensures ∙ c.if-is_comment.false) next (rw none at c.kind_named.ensures))

pub returns : goal.returns
returns c =
    let next : fields c.args.line.now ≡ c.in-Some.name.now ∷ fields c.in-Some.rest.now = search rules in
    let some : c.kind_named.result ≡ Some c.in_ok-kind.kind = search rules in
    kind-read _ _ _ (sym c.is_comment.ensures ∙ c.if-is_comment.false) next (rw some at c.kind_named.ensures) c.fields_say.ensures
