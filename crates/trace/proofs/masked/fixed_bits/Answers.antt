-- `fixed_bits` meets its contract: the mask as a sum.
use native.Mathlib.Omega.{arith}
use lib.Pow.{pow_pos, pow_mono}
use Rattle.trace.proofs.Events.{mask_is}
use Rattle.trace.proofs.masked.fixed_bits.Goals as goal

pub returns : goal.returns
returns c = mask_is c.args.k _ c.requires (omega (arith, pow_pos c.args.k, pow_mono c.requires))
