-- `past_acts` meets its contract: past a run of acts, or nowhere.
use Rattle.load.proofs.Onward.{onward-run, onward-same}
use Rattle.load.proofs.turn.past_acts.Goals as goal

pub returns-then-p-eq4 : goal.returns-then-p-eq4
returns-then-p-eq4 c = onward-run _ _ _ c.acts_end.ensures c.if-p-eq4.true

pub returns-else-p-eq4 : goal.returns-else-p-eq4
returns-else-p-eq4 c = onward-same _ _
