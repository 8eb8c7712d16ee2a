-- `body_size` meets its contract: what is no kind of the table has no body.
use mathlib.Core.Path.{sym}
use Rattle.writing.specs.Inner.Lent.{lent}
use Rattle.writing.proofs.Bodies.{no-body}
use Rattle.writing.proofs.rows.Rows.body_size.Goals as goal

pub returns-in-Err : goal.returns-in-Err
returns-in-Err c = sym (no-body (lent c.args.self) c.args.i (rw c.kind.ensures at c.in-Err.ensures.1)).size
