-- `too_long` meets its contract: after i turns the size of i records is known, and it is not too long.
use Prim.Native.Nat.{◌+◌}
use mathlib.Core.Path.{◌≡◌, refl, sym}
use native.Mathlib.Omega.{arith}
use borrow.Author.Tests.{lt-ltb, le-ltb}
use Rattle.writing.specs.Rows.{kind_at}
use Rattle.writing.specs.Inner.Lent.{lent}
use Rattle.writing.specs.Inner.Sizes.{size_to}
use Rattle.writing.proofs.Puts.{row_in}
use Rattle.writing.proofs.Sizes.{size-more, size-grows, list-size, body-few}
use Rattle.writing.proofs.rows.Rows.too_long.Goals as goal
use Rattle.writing.proofs.rows.Rows.too_long.Goals.{After-body_size}

-- the size with one row more
size-on : (c : After-body_size) → c.loop-i.size + (4 + c.body_size.result) ≡ size_to c.args.self.heads.now (c.loop-i.i + 1)
size-on c = omega (arith, size-more c.args.self.heads.now c.loop-i.i)

pub loop-i-init : goal.loop-i-init
unfolding size_to
loop-i-init c = (refl, omega arith)

pub body_size-requires : goal.body_size-requires
body_size-requires c = omega (arith, (row_in (lent c.args.self) c.loop-i.i (omega arith)).heads-in)

pub overflow_add-size : goal.overflow_add-size
overflow_add-size c = record { fits = omega (arith, body-few (kind_at (lent c.args.self) c.loop-i.i)) }

pub overflow_add-size-in-loop-i : goal.overflow_add-size-in-loop-i
overflow_add-size-in-loop-i c = record { fits = omega (arith, body-few (kind_at (lent c.args.self) c.loop-i.i)) }

pub returns-then-size-gt-LONGEST : goal.returns-then-size-gt-LONGEST
returns-then-size-gt-LONGEST c = let r = lent c.args.self in
    let grows = size-grows r.heads (c.loop-i.i + 1) c.count-i-end.result (omega arith) in
    rw (← list-size r, ← c.count-i-end.ensures)
    (sym (lt-ltb 65536 _ (omega (arith, size-on (goal.at.returns-then-size-gt-LONGEST c).After-body_size, grows))))

pub loop-i-preserved : goal.loop-i-preserved
loop-i-preserved c = (size-on (goal.at.loop-i-preserved c).After-body_size, omega arith)

pub returns : goal.returns
returns c =
    let all : c.count-i-end.result ≡ c.loop-i.i = omega arith in
    rw (← list-size (lent c.args.self), ← c.count-i-end.ensures, all) (sym (le-ltb 65536 _ (omega arith)))
