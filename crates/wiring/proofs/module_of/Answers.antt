-- `wiring::module_of` meets its contract: the code's divisor is 2^k.
use mathlib.Core.Path.{refl}
use lib.Pow.{pow_pos}
use Rattle.wiring.specs.Wiring.{module_of}
use Rattle.wiring.proofs.Laws.{module-below}
use Rattle.wiring.proofs.Shifts.{width-exact}
use Rattle.wiring.proofs.module_of.Goals as goal

pub nonzero_rem-result : goal.nonzero_rem-result
nonzero_rem-result c = rw (width-exact c.args.k c.requires) (pow_pos c.args.k)

pub returns : goal.returns
unfolding module_of
returns c = rw (width-exact c.args.k c.requires) (refl, module-below c.args.k c.args.address)
