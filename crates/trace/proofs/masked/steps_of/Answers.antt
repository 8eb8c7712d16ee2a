-- `steps_of` meets its contract: width by width.
use mathlib.Core.Path.{◌≡◌}
use native.Mathlib.Omega.{arith}
use Rattle.trace.proofs.Events.{steps-0, steps-1, steps-2, steps-3, steps-4}
use Rattle.trace.proofs.masked.steps_of.Goals as goal

pub returns-in-0 : goal.returns-in-0
returns-in-0 c = rw c.in-0.is steps-0

pub returns-in-1 : goal.returns-in-1
returns-in-1 c = rw c.in-1.is steps-1

pub returns-in-2 : goal.returns-in-2
returns-in-2 c = rw c.in-2.is steps-2

pub returns-in-3 : goal.returns-in-3
returns-in-3 c = rw c.in-3.is steps-3

pub returns-in_default : goal.returns-in_default
returns-in_default c = let four : c.args.k ≡ 4 = omega arith in rw four steps-4
