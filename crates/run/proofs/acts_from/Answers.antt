-- `acts_from` meets its contract: act by act, until the trace ends or every request is answered.
use native.Mathlib.Omega.{arith}
use Rattle.event.proofs.Steps.{what-most}
use Rattle.run.proofs.Acts.{going-first, going-ready, going-any, going-left, going-few, event-next, drain-next, going-event}
use Rattle.run.proofs.Acts.{going-drain, going-ends, going-rests}
use Rattle.run.proofs.acts_from.Goals as goal

pub loop-act-init : goal.loop-act-init
loop-act-init c = going-first c.requires

pub act_at-requires : goal.act_at-requires
act_at-requires c = going-left c.loop-act.invariant c.requires

pub returns : goal.returns
returns c = going-ends c.loop-act.invariant (rw c.in_default.is at c.act_at.ensures)

-- ---- an event
pub unreachable-requires : goal.unreachable-requires
unreachable-requires c =
    let g = c.loop-act.invariant in
    let a = c.requires in
    let r = rw (c.in-Some.is, c.in-Event.is) at c.act_at.ensures in
    omega (arith, what-most _ _ _ (event-next g a r).0)

pub step-requires : goal.step-requires
step-requires c =
    let g = c.loop-act.invariant in
    let a = c.requires in
    let r = rw (c.in-Some.is, c.in-Event.is) at c.act_at.ensures in
    let e = event-next g a r in
    record { ready_with = going-ready g a; level_value = rw c.in-Ok.ensures e.0; position_bound = e.1 }

pub overflow_add-at : goal.overflow_add-at
overflow_add-at c =
    let g = c.loop-act.invariant in
    let a = c.requires in
    let r = rw (c.in-Some.is, c.in-Event.is) at c.act_at.ensures in
    omega (arith, (event-next g a r).2, a.short)

pub loop-act-smaller-in-Event : goal.loop-act-smaller-in-Event
loop-act-smaller-in-Event c =
    let g = c.loop-act.invariant in
    let a = c.requires in
    let r = rw (c.in-Some.is, c.in-Event.is) at c.act_at.ensures in
    omega (arith, (event-next g a r).2)

pub loop-act-preserved-in-Event : goal.loop-act-preserved-in-Event
loop-act-preserved-in-Event c =
    let g = c.loop-act.invariant in
    let a = c.requires in
    let r = rw (c.in-Some.is, c.in-Event.is) at c.act_at.ensures in
    going-event g a r (rw c.in-Ok.ensures at c.step.ensures)

-- ---- a drain
pub drain-requires : goal.drain-requires
drain-requires c =
    let g = c.loop-act.invariant in
    let a = c.requires in
    record { ready_with = going-ready g a; m_bound = going-few g a }

pub all_answered-requires : goal.all_answered-requires
all_answered-requires c =
    let g = c.loop-act.invariant in
    let a = c.requires in
    let r = rw (c.in-Some.is, c.in-Drain.is) at c.act_at.ensures in
    going-any (going-drain g a r c.drain.ensures) a

pub returns-then-all_answered : goal.returns-then-all_answered
returns-then-all_answered c =
    let g = c.loop-act.invariant in
    let a = c.requires in
    let r = rw (c.in-Some.is, c.in-Drain.is) at c.act_at.ensures in
    going-rests (going-drain g a r c.drain.ensures) c.all_answered.ensures c.if-all_answered.true

pub overflow_add-at-in-Drain : goal.overflow_add-at-in-Drain
overflow_add-at-in-Drain c =
    let g = c.loop-act.invariant in
    let a = c.requires in
    let r = rw (c.in-Some.is, c.in-Drain.is) at c.act_at.ensures in
    omega (arith, drain-next g a r, a.short)

pub loop-act-smaller : goal.loop-act-smaller
loop-act-smaller c =
    let g = c.loop-act.invariant in
    let a = c.requires in
    let r = rw (c.in-Some.is, c.in-Drain.is) at c.act_at.ensures in
    omega (arith, drain-next g a r)

pub loop-act-preserved : goal.loop-act-preserved
loop-act-preserved c =
    let g = c.loop-act.invariant in
    let a = c.requires in
    let r = rw (c.in-Some.is, c.in-Drain.is) at c.act_at.ensures in
    going-drain g a r c.drain.ensures
