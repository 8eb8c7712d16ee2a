-- `made::text_made` meets its contract: the rows that `read` filled are parts of the arrays, and enough of them.
use Prim.Native.Nat.{ℕ}
use lib.ListN.{length-replicate}
use Rattle.writer.proofs.Few.{items-read, wrong-read, rows-many}
use Rattle.writer.proofs.Making.{wrong-made, items-made}
use Rattle.writer.proofs.made.text_made.Goals as goal

pub returns-in-Err : goal.returns-in-Err
returns-in-Err c =
    wrong-made c.args.text.now (wrong-read c.read.ensures c.in-Err.is) c.put_wrong.ensures.0 c.put_wrong.ensures.1
    c.requires.1

pub returns-in-Ok : goal.returns-in-Ok
returns-in-Ok c =
    items-made c.args.text.now (items-read c.read.ensures c.in-Ok.is)
    (rows-many _ (length-replicate {A = ℕ} 21846 0) (length-replicate {A = ℕ} 109230 0) (length-replicate {A = ℕ} 87384 0))
    c.rows_made.ensures
