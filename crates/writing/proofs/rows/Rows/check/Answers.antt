-- `check` meets its contract: 10, then after i turns the rows from i on decide.
use mathlib.Core.Path.{sym}
use native.Mathlib.Omega.{arith}
use borrow.Author.Tests.{ltb-false}
use Rattle.std.proofs.Common.{rules}
use Rattle.std.proofs.lemmas.Result.{err_from_is_err_and}
use Rattle.writing.specs.Inner.Lent.{lent}
use Rattle.writing.proofs.Results.{too-long, rows-decide}
use Rattle.writing.proofs.Checks.{inside-start, row-told, ends-empty, ends-clean}
use Rattle.writing.proofs.rows.Rows.check.Goals as goal

pub returns-then-too_long : goal.returns-then-too_long
returns-then-too_long c = too-long (lent c.args.self) (sym c.if-too_long.ensures)

pub loop-i-init : goal.loop-i-init
loop-i-init c = rw c.start-p.ensures (inside-start (lent c.args.self) (ltb-false 65536 _ (sym c.if-too_long.ensures)))

pub returns-in_err-p : goal.returns-in_err-p
returns-in_err-p c = let p = err_from_is_err_and c.from_residual.result c.from_residual.ensures.1 in
    rw (p.1, p.2, rows-decide (lent c.args.self) (sym c.if-too_long.ensures))
    (row-told (lent c.args.self) c.loop-i.i-counter c.loop-i.p _ c.one_row.result c.one_row.ensures c.map_err.ensures.cases (λ e g h. search rules) c.in_err-p.was)

pub returns-then-n-eq0 : goal.returns-then-n-eq0
returns-then-n-eq0 c = rw (rows-decide (lent c.args.self) (sym c.if-too_long.ensures)) (ends-empty c.loop-i.invariant (omega arith) (omega arith))

pub returns : goal.returns
returns c = rw (rows-decide (lent c.args.self) (sym c.if-too_long.ensures)) (ends-clean c.loop-i.invariant (omega arith) (omega arith))
