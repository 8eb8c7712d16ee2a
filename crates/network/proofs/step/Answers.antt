-- `step` meets its contract: where there is nothing to move nothing moves, and else the step is taken.
use mathlib.Core.Path.{ap}
use Rattle.event.specs.Inner.Steps.{number_of_step}
use Rattle.network.proofs.Steps.{Named, level-small, level-1, level-3, rested-moves, to-issue, to-serve, to-collect, issued, served, collected}
use Rattle.network.proofs.step.Goals as goal
use Rattle.network.proofs.step.Goals.{Start}

named : (s : Start) → Named s.args.m.now s.args.words.now (number_of_step s.args.step) s.args.level s.args.position
named s = record { ready = s.requires.ready_with; fits = s.requires.level_value }

pub nothing_to_move-requires : goal.nothing_to_move-requires
nothing_to_move-requires c = (level-small (named c), c.requires.position_bound)

pub returns-then-nothing_to_move : goal.returns-then-nothing_to_move
returns-then-nothing_to_move c = rested-moves (named c.before.before) c.nothing_to_move.ensures c.if-nothing_to_move.true

pub issue-requires-clause-e_bound : goal.issue-requires-clause-e_bound
issue-requires-clause-e_bound c =
    let is = ap number_of_step c.in-Issue.is in
    (c.requires.position_bound, to-issue (named c.before.before.before.before) c.nothing_to_move.ensures c.if-nothing_to_move.false is)

pub forward-requires-clause-level_nonzero : goal.forward-requires-clause-level_nonzero
forward-requires-clause-level_nonzero c =
    let within = level-1 (named c.before.before.before.before) (ap number_of_step c.in-Forward.is) in
    (within.0, within.1, c.requires.position_bound)

pub module_step-requires-clause-position_bound : goal.module_step-requires-clause-position_bound
module_step-requires-clause-position_bound c =
    let is = ap number_of_step c.in-Module.is in
    (c.requires.position_bound, to-serve (named c.before.before.before.before.before) c.nothing_to_move.ensures c.if-nothing_to_move.false is)

pub return_step-requires-clause-level_nonzero : goal.return_step-requires-clause-level_nonzero
return_step-requires-clause-level_nonzero c =
    let within = level-3 (named c.before.before.before.before) (ap number_of_step c.in-Return.is) in
    (within.0, within.1, c.requires.position_bound)

pub collect-requires-clause-e_bound : goal.collect-requires-clause-e_bound
collect-requires-clause-e_bound c =
    let is = ap number_of_step c.in-Collect.is in
    (c.requires.position_bound, to-collect (named c.before.before.before.before) c.nothing_to_move.ensures c.if-nothing_to_move.false is)

pub returns-in-Issue : goal.returns-in-Issue
returns-in-Issue c = issued (named c.before.before.before.before.before) (ap number_of_step c.in-Issue.is) c.issue.ensures

pub returns-in-Module : goal.returns-in-Module
returns-in-Module c = served (named c.before.before.before.before.before.before) (ap number_of_step c.in-Module.is) c.module_step.ensures

pub returns-in-Collect : goal.returns-in-Collect
returns-in-Collect c = collected (named c.before.before.before.before.before) (ap number_of_step c.in-Collect.is) c.collect.ensures
