-- `drain` meets its contract. The loop's invariant: the rounds so far came off the allowance.
use Prim.Native.Nat.{◌-◌}
use Rattle.rounds.proofs.Draining.{Draining}
use Rattle.rounds.proofs.drain.Given as goal

abbrev pub invariant-loop : goal.invariant-loop
invariant-loop l = Draining l.allowed l.initial.m l.initial.words l.m l.words (l.allowed - l.counter)
