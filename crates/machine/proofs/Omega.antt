-- Document 01's setup is lawful, and so is its counter.
use Prim.Native.Nat.{ℕ, ◌+◌, ◌^◌, ◌<◌}
use mathlib.Core.Path.{◌≡◌, refl, ◌∙◌, ap, subst}
use mathlib.Core.Bool.{true}
use Rattle.std.proofs.Common.{Some}
use native.Mathlib.Omega.{arith}
use Rattle.lists.proofs.Tests.{test-clash}
use Rattle.operation.specs.Operation.{cut, applied, merged}
use Rattle.operation.specs.declared.Operation.{Operation}
use Rattle.operation.specs.declared.Operation.TheVariants.{Load, Swap, Add, Mask}
use Rattle.operation.proofs.Laws.{cut_inside, cut_again, load-applied, add-applied, load-then, then-load, add-then-add, merge-applies}
use Rattle.wiring.specs.Wiring.{module_of}
use Rattle.wiring.proofs.Laws.{module-below, position-below, position-engine, position-onward}
use Rattle.machine.specs.Octets.{load_or_add, add_operand, octet_counter}
use Rattle.machine.specs.Inner.Lawful.{Lawful, LawfulCounter}
use Rattle.machine.specs.Omega.{omega_network}

pub omega-lawful : (k Q W R : ℕ) (engine_of address_of : ℕ → ℕ) (operation_of : ℕ → Operation) → 0 < k → 0 < Q → ((t : ℕ) → engine_of t < 2 ^ k)
    → Lawful (omega_network k Q W R engine_of address_of operation_of)
omega-lawful k Q W R engine_of address_of operation_of levels room engines = record {
  merge-applies = merge-applies;
  place-engine = λ t. position-engine k (engine_of t) (module_of k (address_of t)) (engines t) (module-below k (address_of t));
  position-onward = λ e e' a s. position-onward k e e' (module_of k a) s;
  place-below = λ t s. position-below k (engine_of t) (module_of k (address_of t)) s;
  levels = levels;
  room = room;
}

-- ---- the counter: what loads and adds bring to a word, alone and merged
octet-adds : (f : Operation) → load_or_add f ≡ true → (x : ℕ) → cut (applied f x) ≡ cut (x + add_operand f)
unfolding load_or_add add_operand
octet-adds Load h x = ap cut (omega (arith, load-applied x))
octet-adds (Swap v) h x = test-clash h refl
octet-adds (Add a) h x = ap cut (add-applied a x) ∙ cut_again (x + a)
octet-adds (Mask a b) h x = test-clash h refl

octet-keeps : (f : Operation) → load_or_add f ≡ true → (x : ℕ) → cut x ≡ x → cut (applied f x) ≡ applied f x
unfolding load_or_add
octet-keeps Load h x fits = rw load-applied fits
octet-keeps (Swap v) h x fits = test-clash h refl
octet-keeps (Add a) h x fits = rw add-applied (cut_again (x + a))
octet-keeps (Mask a b) h x fits = test-clash h refl

abbrev BringsBoth : Operation → Operation → Operation → Type 0
BringsBoth f g h = (load_or_add h ≡ true) × (cut (add_operand h) ≡ cut (add_operand f + add_operand g))

both-in : (f g h o : Operation) → merged f g ≡ Some h → merged f g ≡ Some o → BringsBoth f g o → BringsBoth f g h
both-in f g h o e q z = let is : o ≡ h = cc in subst (BringsBoth f g) is z

octet-merges : (f g h : Operation) → load_or_add f ≡ true → load_or_add g ≡ true → merged f g ≡ Some h → BringsBoth f g h
unfolding load_or_add add_operand
octet-merges Load g h lf lg e = both-in Load g h g e (load-then g) (lg, ap cut (omega arith))
octet-merges (Swap v) g h lf lg e = test-clash lf refl
octet-merges (Add a) Load h lf lg e = both-in (Add a) Load h (Add a) e (then-load (Add a)) (refl, ap cut (omega arith))
octet-merges (Add a) (Swap v) h lf lg e = test-clash lg refl
octet-merges (Add a) (Add b) h lf lg e = both-in (Add a) (Add b) h (Add (cut (a + b))) e (add-then-add a b) (refl, cut_again (a + b))
octet-merges (Add a) (Mask c d) h lf lg e = test-clash lg refl
octet-merges (Mask a b) g h lf lg e = test-clash lf refl

pub octets-lawful : (k Q W R : ℕ) (engine_of address_of : ℕ → ℕ) (operation_of : ℕ → Operation)
    → LawfulCounter (omega_network k Q W R engine_of address_of operation_of) octet_counter
octets-lawful k Q W R engine_of address_of operation_of = record {
  cut_inside = cut_inside;
  adds = octet-adds;
  keeps = octet-keeps;
  merges = octet-merges;
}
