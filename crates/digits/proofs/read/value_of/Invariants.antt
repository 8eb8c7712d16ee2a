-- `value_of` meets its contract: n is what the digits so far spell.
use Rattle.std.proofs.Common.{◌≡◌, ◌^◌, ◌<◌, take}
use Rattle.digits.specs.Numeral.{value_in}
use Rattle.digits.proofs.read.value_of.Given as goal

abbrev pub invariant-loop-c : goal.invariant-loop-c
invariant-loop-c l = (l.n ≡ value_in 10 (take l.c-index l.text)) × (l.n < 2 ^ 64)
