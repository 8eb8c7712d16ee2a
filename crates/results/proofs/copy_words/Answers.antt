-- `results::copy_words` meets its contract: the front of the slice is the memory's words.
use native.Mathlib.Omega.{arith}
use lib.ListN.{length-take}
use Rattle.results.proofs.copy_words.Goals as goal

pub copy_from_slice-requires : goal.copy_from_slice-requires
copy_from_slice-requires c = omega (arith, length-take 256 c.args.words.now, c.told-memory)
