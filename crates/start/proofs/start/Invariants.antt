-- `start` meets its contract. The loop's invariant: the requests from t on are linked.
use Rattle.start.proofs.Linking.{Linking}
use Rattle.start.proofs.start.Given as goal

abbrev pub invariant-loop-t : goal.invariant-loop-t
invariant-loop-t l = Linking l.initial.m l.m l.count l.t
