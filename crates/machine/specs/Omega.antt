-- Document 01's network: the setup with its operations and its wiring.
use Rattle.std.specs.Prelude.{ℕ, ◌^◌}
use Rattle.operation.specs.Operation.{applied, merged}
use Rattle.operation.specs.declared.Operation.{Operation}
use Rattle.wiring.specs.Wiring.{position, module_of}
use Rattle.machine.specs.Setup.{Setup}

-- k, the rooms Q and W, the number R of requests, and of each tag its engine, address and operation; "256 words of 64 bits",
-- "N = 2^k", "Word a belongs to module a mod N"
abbrev pub omega_network : (k Q W R : ℕ) → (ℕ → ℕ) → (ℕ → ℕ) → (ℕ → Operation) → Setup
omega_network k Q W R engine_of address_of operation_of = record {
  Word = ℕ;
  Operation = Operation;
  apply = applied;
  merge = merged;
  k = k;
  N = 2 ^ k;
  Q = Q;
  W = W;
  R = R;
  engine_of = engine_of;
  address_of = address_of;
  operation_of = operation_of;
  position = λ e a s. position k e (module_of k a) s;
}
