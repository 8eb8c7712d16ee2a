-- `youngest` meets its contract. The loop's invariant: none of the younger tags has the address.
use mathlib.Core.Path.{sym, ◌∙◌}
use native.Mathlib.Omega.{arith}
use borrow.Author.Tests.{eq-eqb}
use Rattle.store.specs.Inner.Memory.{view}
use Rattle.node.proofs.Laws.{youngest-none, youngest-at}
use Rattle.node.proofs.youngest.Goals as goal

pub returns-then-address_of-address : goal.returns-then-address_of-address
returns-then-address_of-address c = youngest-at (view c.args.m.now).fixed.address c.args.address c.args.queue c.loop-i.i c.loop-i-test.true
    (eq-eqb _ _ (rw c.younger.ensures at (sym c.address_of.ensures ∙ c.if-address_of-address.true))) c.loop-i.invariant

pub returns : goal.returns
returns c = youngest-none (view c.args.m.now).fixed.address c.args.address c.args.queue
    (λ j l. c.loop-i.invariant j (omega (arith, l, c.loop-i-test.false)))
