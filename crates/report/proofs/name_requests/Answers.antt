-- `report::name_requests` meets its contract: after n turns the addresses of the first n requests are marked.
use Prim.Native.Nat.{◌<◌}
use native.Mathlib.Omega.{arith}
use borrow.Author.Rules.{rules}
use Rattle.report.proofs.Names.{marked-none, marked_more}
use Rattle.report.proofs.name_requests.Goals as goal

pub loop-tag-init : goal.loop-tag-init
loop-tag-init c = (omega arith, marked-none c.told-named)

pub loop-tag-preserved : goal.loop-tag-preserved
loop-tag-preserved c =
    let low : c.address_of-address.result < 256 = search rules in
    let turn = c.loop-tag in
    let small = rw c.address_of-address.ensures at low in
    (omega arith, rw c.address_of-address.ensures (marked_more turn.tag small turn.invariant.1))
