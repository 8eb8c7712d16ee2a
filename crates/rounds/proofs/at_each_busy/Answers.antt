-- `at_each_busy` meets its contract. The loop's invariant: the row up to the positions whose lengths are left. Its measure: those lengths.
use Rattle.std.proofs.Common.{rules}
use native.Mathlib.Omega.{arith}
use Rattle.event.specs.Inner.Steps.{number_of_step}
use Rattle.event.proofs.Steps.{level-most}
use Rattle.store.specs.Inner.Memory.{view}
use Rattle.rounds.proofs.Rows.{levels-within, going-begins, going-ready, going-same, going-full, going-rests, going_on}
use Rattle.rounds.proofs.at_each_busy.Goals as goal

pub busy_row-left-requires : goal.busy_row-left-requires
busy_row-left-requires g c =
    let below = level-most (view c.args.m.now).fixed.k (number_of_step c.args.step) c.args.level c.requires.level_value in
    omega (arith, below, (levels-within c.requires.ready_with.stands).1)

pub loop-left-init : goal.loop-left-init
loop-left-init g c = going-begins c.requires.level_value c.requires.ready_with c.busy_row-left.ensures

pub take-requires : goal.take-requires
take-requires g c =
    let A = c.loop-left.invariant in
    let first = c.first_busy-p.ensures in
    let may = c.requires.takes.may in
    let ready = going-ready A in
    let same = going-same A in
    let full = going-full A first in
    let within = first.within in
    search rules

pub loop-left-preserved : goal.loop-left-preserved
loop-left-preserved g c =
    let A = c.loop-left.invariant in
    going_on A c.first_busy-p.ensures c.lengths_above-left.ensures (c.requires.takes.moves _ _ _ _ _ (going-ready A) (going-same A) c.take.ensures)

pub returns : goal.returns
returns g c = going-rests c.loop-left.invariant c.loop-left-test.false
