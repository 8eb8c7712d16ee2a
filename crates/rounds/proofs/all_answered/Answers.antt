-- `all_answered` meets its contract: the marks of all requests are set.
use Rattle.rounds.proofs.Draining.{answered-tells}
use Rattle.rounds.proofs.all_answered.Goals as goal

pub returns : goal.returns
returns c = answered-tells _ c.all_answered.ensures
