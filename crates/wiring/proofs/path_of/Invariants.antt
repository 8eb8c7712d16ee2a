-- `wiring::path_of` meets its contract. The loop's invariant: the word has the positions of the levels so far, and the route is shifted so far.
use Prim.Native.Nat.{◌+◌, ◌-◌}
use Rattle.wiring.specs.Wiring.{module_of}
use Rattle.wiring.proofs.Paths.{From}
use Rattle.wiring.proofs.path_of.Given as goal

abbrev pub invariant-loop : goal.invariant-loop
invariant-loop l = From l.k l.engine (module_of l.k l.address) (l.k + 1 - l.counter) l.route l.path
