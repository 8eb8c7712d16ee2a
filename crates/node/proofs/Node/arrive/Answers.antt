-- `Node::arrive` meets its contract: each way out is a case of the machine's arrival.
use mathlib.Core.Path.{sym, ◌∙◌}
use native.Mathlib.Omega.{arith}
use Rattle.store.specs.Inner.Memory.{view}
use Rattle.node.proofs.Laws.{youngest-below, found-some}
use Rattle.node.proofs.Arrivals.{Met, full-arrives, alone-arrives, never-arrives, merged-arrives}
use Rattle.node.proofs.Node.arrive.Goals as goal
use Rattle.node.proofs.Node.arrive.Goals.{After-operation_at-arriving}

met : (c : After-operation_at-arriving) →
    Met c.args.self c.args.m.now c.args.t c.in-Some.i c.younger-older.result c.operation_at-before.result c.operation_at-arriving.result
met c = record {
  place = found-some (view c.args.m.now).fixed.address c.args.self.queue _ c.youngest.ensures c.in-Some.is c.address_of-address.ensures;
  read = c.younger-older.ensures;
  before-is = c.operation_at-before.ensures;
  arriving-is = c.operation_at-arriving.ensures;
}

pub returns-then-w-self : goal.returns-then-w-self
returns-then-w-self c = full-arrives c.told-m c.append.ensures c.args.w (omega arith)

pub returns-in_default : goal.returns-in_default
returns-in_default c = alone-arrives c.told-m c.append-in_default.ensures (rw (c.in_default.is, c.address_of-address.ensures) at c.youngest.ensures)

pub younger-older-requires : goal.younger-older-requires
younger-older-requires c =
    let place = found-some (view c.args.m.now).fixed.address c.args.self.queue _ c.youngest.ensures c.in-Some.is c.address_of-address.ensures in
    omega (arith, youngest-below _ _ c.args.self.queue c.in-Some.i place, c.requires.held_node.queue)

pub returns-in_default-merge : goal.returns-in_default-merge
returns-in_default-merge c =
    never-arrives (met (goal.at.returns-in_default-merge c).After-operation_at-arriving) c.told-m c.append-in_default-merge.ensures
    (sym c.in_default-merge.is ∙ c.merge.ensures)

pub returns : goal.returns
returns c =
    merged-arrives (met (goal.at.returns c).After-operation_at-arriving) c.requires.held_node c.requires.apart_at c.args.w (omega arith)
    (sym c.in-Some-merge.is ∙ c.merge.ensures) c.set_operation.ensures c.set_operation-2.ensures c.push-self.ensures.0 c.push-self.ensures.1
