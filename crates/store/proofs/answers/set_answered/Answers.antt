-- `set_answered` meets its contract: a mark set in its word.
use native.Mathlib.Omega.{arith}
use Rattle.store.proofs.Answered.{answer-set}
use Rattle.store.proofs.answers.set_answered.Goals as goal

pub returns : goal.returns
returns c = answer-set c.args.m.now c.told-m c.args.t _ (omega arith) c.with_mark.ensures
