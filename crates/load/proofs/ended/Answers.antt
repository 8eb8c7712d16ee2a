-- `ended` meets its contract: refused where no shape was given, and else what is known of the whole trace.
use borrow.Author.Tests.{eq-eqb, ne_eqb}
use Rattle.load.proofs.ended.Goals as goal

pub returns-then-p-eq0 : goal.returns-then-p-eq0
returns-then-p-eq0 c = simp (eq-eqb _ _ c.if-p-eq0.true)

pub returns : goal.returns
returns c = simp (ne_eqb _ _ c.if-p-eq0.false)
