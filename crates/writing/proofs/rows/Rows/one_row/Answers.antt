-- `one_row` meets its contract: no such kind, or what the reader's rules say of the row's body.
use mathlib.Core.Path.{◌≡◌, ap, sym, ◌∙◌}
use mathlib.Core.Bool.{true}
use native.Mathlib.Omega.{arith}
use Rattle.std.proofs.lemmas.Result.{err_from_is_err_and}
use lib.ListN.{length}
use Rattle.digits.proofs.Buffer.{printed-within, printed-text}
use Rattle.trace.specs.Table.{is_row}
use Rattle.trace.specs.Inner.Kinds.{number_of_kind}
use Rattle.trace.proofs.KindRows.{kind-known}
use Rattle.writing.specs.Rows.{kind_at}
use Rattle.writing.specs.Inner.Lent.{lent}
use Rattle.writing.specs.Inner.Records.{row_at}
use Rattle.writing.proofs.Entries.{bodied-at, item-at}
use Rattle.writing.proofs.Puts.{row_in}
use Rattle.writing.proofs.Checks.{may-check, row-unknown, row-turn}
use Rattle.writing.proofs.rows.Rows.one_row.Goals as goal
use Rattle.writing.proofs.rows.Rows.one_row.Goals.{In_ok-kind}

-- the kind is one of the table
known : (c : In_ok-kind) → number_of_kind c.in_ok-kind.kind ≡ kind_at (lent c.args.self) c.args.i
known c = c.in_ok-kind.ensures ∙ c.kind.ensures

is : (c : In_ok-kind) → is_row (row_at (lent c.args.self) c.args.i) ≡ true
is c = let e = known c in rw e at (kind-known c.in_ok-kind.kind)

pub kind-requires : goal.kind-requires
kind-requires c = omega (arith, (row_in (lent c.args.self) c.args.i c.requires.0).heads-in)

pub returns-in_err-kind : goal.returns-in_err-kind
returns-in_err-kind c = let p = err_from_is_err_and c.from_residual.result c.from_residual.ensures.1 in
    let none = rw c.kind.ensures at c.in_err-kind.ensures.1 in
    rw (p.1, p.2, c.in_err-kind.ensures.0) (row-unknown c.requires.1 c.requires.0 none)

pub body_in-end-requires : goal.body_in-end-requires
body_in-end-requires c = row_in (lent c.args.self) c.args.i c.requires.0

pub slice_bounds-body-end : goal.slice_bounds-body-end
slice_bounds-body-end c = printed-within c.body_in-end.ensures

pub slice_bounds-record-end : goal.slice_bounds-record-end
slice_bounds-record-end c = c.body_in-end.ensures.size ∙ ap length (sym (printed-text c.body_in-end.ensures))

pub one_body-requires : goal.one_body-requires
one_body-requires c = let r = lent c.args.self in let i = c.args.i in
    let told = (goal.at.one_body-requires c).In_ok-kind in
    (rw (known told, printed-text c.body_in-end.ensures) (bodied-at r i (is told)), may-check c.requires.1)

pub returns : goal.returns
returns c = let r = lent c.args.self in let i = c.args.i in
    let told = (goal.at.returns c).In_ok-kind in
    let found = rw (known told, printed-text c.body_in-end.ensures, item-at r i (is told) c.args.self.typed) at c.one_body.ensures in
    row-turn c.requires.1 c.requires.0 (is told) c.one_body.result _ found
