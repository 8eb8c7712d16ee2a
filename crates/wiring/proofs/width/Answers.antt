-- `wiring::width` meets its contract: a shift by a k that is small.
use native.Mathlib.Omega.{arith}
use lib.Pow.{pow_mono}
use Rattle.wiring.proofs.Shifts.{width-exact}
use Rattle.wiring.proofs.width.Goals as goal

pub overflow_shl-result : goal.overflow_shl-result
overflow_shl-result c = omega (arith, c.requires)

pub returns : goal.returns
returns c = (width-exact c.args.k c.requires, omega (arith, width-exact c.args.k c.requires, pow_mono {i = c.args.k} {j = 4} c.requires))
