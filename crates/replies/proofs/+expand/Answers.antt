-- `expand` meets its contract: its level falls, and the loop has put out what the records gone through stand for.
use Prim.Native.Nat.{ℕ}
use native.Mathlib.Omega.{arith}
use Rattle.store.specs.Inner.Memory.{view}
use Rattle.replies.proofs.Expanded.{past-none, past_next, tags-part, one-room, put_one, fit-kept, put-none}
use Rattle.replies.proofs.Expanded.{Opened, put-hit, put-miss, put_all, put-nothing, second-room}
use Rattle.replies.proofs.+expand.Goals as goal
use Rattle.replies.proofs.+expand.Goals.{After-load_waits-waits, then-first-t, else-first-t}

opened : {t : ℕ} (c : After-load_waits-waits t) →
    let w = c.load_waits-waits.result in
    Opened c.args.m.now c.expand.new.m c.args.level c.args.t c.position_of-p.result w.firsts w.seconds w.len
opened c = record {
  up = c.if-level-eq0.false;
  on = c.position_of-p.ensures.0;
  loaded = c.load_waits-waits.ensures.0;
  first = c.expand.ensures;
}

pub append_order-requires : goal.append_order-requires
append_order-requires t c =
    one-room c.args.m.now _ c.args.t c.if-level-eq0.true c.requires.expansion_fits

pub returns-then-level-eq0 : goal.returns-then-level-eq0
returns-then-level-eq0 t c =
    put_one _ _ _ c.if-level-eq0.true c.append_order.ensures

pub expand-requires : goal.expand-requires
expand-requires t c =
    let part = tags-part (view c.args.m.now).fixed.path (view c.args.m.now).waits c.args.level c.args.t c.if-level-eq0.false in
    let room = c.requires.expansion_fits in
    (omega (arith, c.if-level-eq0.false), (omega (arith, c.requires.level_bound), (c.requires.waits_fit, omega (arith, room, part))))

pub returns-then-waits-eq0 : goal.returns-then-waits-eq0
returns-then-waits-eq0 t c =
    put-nothing (opened (goal.at.returns-then-waits-eq0 t c).After-load_waits-waits) 0 (omega (arith, c.if-waits-eq0.true)) (λ j l. absurd (omega arith))

pub returns-in_default : goal.returns-in_default
returns-in_default t c =
    put-nothing (opened (goal.at.returns-in_default t c).After-load_waits-waits) 8 c.load_waits-waits.ensures.1 c.in_default.ensures.below

pub loop-i-init : goal.loop-i-init
loop-i-init t c =
    let none = c.in-Some.ensures.1.below in
    (put-none _ _ _ _ _ _ c.expand.ensures.sized none, past-none _ _ _ _ _ none)

pub expand-requires-then-first-t : goal.expand-requires-then-first-t
expand-requires-then-first-t t c =
    let put = c.loop-i.invariant.0 in
    let fit = fit-kept _ (fit-kept _ c.requires.waits_fit c.expand.ensures) put in
    let room = second-room (opened (goal.at.expand-requires-then-first-t t c).After-load_waits-waits) c.loop-i.i _ _ c.loop-i-test.true
    c.first.ensures c.if-first-t.true c.second-second.ensures put c.requires.expansion_fits in
    (omega (arith, c.if-level-eq0.false), (omega (arith, c.requires.level_bound), (fit, room)))

pub loop-i-preserved : goal.loop-i-preserved
loop-i-preserved t c =
    let e = c.first.ensures in
    let put = c.loop-i.invariant.0 in
    let past = past_next _ _ _ _ _ c.loop-i-test.true in
    elim c.if-first-t.branch [
      | then-first-t w ↦ (put-hit _ _ _ _ _ _ put _ _ e w.if-first-t.true w.second-second.ensures w.m-is w.expand-then-first-t.ensures, past)
      | else-first-t w ↦ (put-miss _ _ _ _ _ _ put _ e w.if-first-t.false w.m-is, past)
    ]

pub returns : goal.returns
returns t c =
    put_all (opened (goal.at.returns t c).After-load_waits-waits) c.loop-i.i (c.loop-i.invariant.1 (omega (arith, c.loop-i-test.false))) c.loop-i.invariant.0
