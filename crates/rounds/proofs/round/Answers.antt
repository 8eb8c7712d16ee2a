-- `round` meets its contract: its five parts, one after another.
use mathlib.Core.Path.{◌≡◌, sym, ◌∙◌}
use Rattle.std.proofs.Common.{rules}
use Rattle.event.proofs.Steps.{issues-fit, modules-fit, collects-fit}
use Rattle.store.specs.Inner.Memory.{view}
use Rattle.rounds.proofs.Whole.{round-collects, round-returns, round-modules, round-forwards, round-issues}
use Rattle.rounds.proofs.round.Goals as goal

pub at_each_busy-requires-clause-level_value : goal.at_each_busy-requires-clause-level_value
at_each_busy-requires-clause-level_value c = collects-fit _

pub returns_up-requires : goal.returns_up-requires
returns_up-requires c = (round-collects c.requires c.at_each_busy.ensures).ready

pub at_each_busy-requires-2-clause-ready_with : goal.at_each_busy-requires-2-clause-ready_with
at_each_busy-requires-2-clause-ready_with c = (round-returns (round-collects c.requires c.at_each_busy.ensures) c.returns_up.ensures).ready

pub at_each_busy-requires-2-clause-level_value : goal.at_each_busy-requires-2-clause-level_value
at_each_busy-requires-2-clause-level_value c =
    let returned = round-returns (round-collects c.requires c.at_each_busy.ensures) c.returns_up.ensures in
    rw (c.levels-k.ensures, returned.same) (modules-fit (view c.args.m.now).fixed.k)

pub at_each_busy-requires-2-clause-takes : goal.at_each_busy-requires-2-clause-takes
at_each_busy-requires-2-clause-takes c =
    let returned = round-returns (round-collects c.requires c.at_each_busy.ensures) c.returns_up.ensures in
    record {
      may = λ m words p R e l f.
          let same : c.levels-k.result ≡ (view m.now).fixed.k = c.levels-k.ensures ∙ sym (e ∙ returned.same) in
          let full = rw same at f in
          search rules;
      moves = λ m words p m' words' R e M.
          let same : c.levels-k.result ≡ (view m.now).fixed.k = c.levels-k.ensures ∙ sym (e ∙ returned.same) in
          rw same M;
    }

pub forwards_down-requires : goal.forwards_down-requires
forwards_down-requires c =
    let returned = round-returns (round-collects c.requires c.at_each_busy.ensures) c.returns_up.ensures in
    (round-modules returned (rw (c.levels-k.ensures, ← returned.same) at c.at_each_busy-2.ensures)).ready

pub at_each_busy-requires-3-clause-ready_with : goal.at_each_busy-requires-3-clause-ready_with
at_each_busy-requires-3-clause-ready_with c =
    let returned = round-returns (round-collects c.requires c.at_each_busy.ensures) c.returns_up.ensures in
    let served = round-modules returned (rw (c.levels-k.ensures, ← returned.same) at c.at_each_busy-2.ensures) in
    (round-forwards served c.forwards_down.ensures).ready

pub at_each_busy-requires-3-clause-level_value : goal.at_each_busy-requires-3-clause-level_value
at_each_busy-requires-3-clause-level_value c = issues-fit _

pub returns : goal.returns
returns c =
    let returned = round-returns (round-collects c.requires c.at_each_busy.ensures) c.returns_up.ensures in
    let served = round-modules returned (rw (c.levels-k.ensures, ← returned.same) at c.at_each_busy-2.ensures) in
    round-issues (round-forwards served c.forwards_down.ensures) c.at_each_busy-3.ensures
