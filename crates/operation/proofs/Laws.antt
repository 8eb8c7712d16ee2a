-- The laws of the add, of merging, and of codes and operands: document 01, "Operations".
use Rattle.std.proofs.Common.{◌≡◌, ℕ, ◌+◌, ◌^◌, ◌<◌, refl, ap, ◌∙◌, subst, add_comm, arith, Option, Some, None}
use Rattle.operation.specs.declared.Operation.{Operation}
use Rattle.operation.specs.declared.Operation.TheVariants.{Load, Swap, Add, Mask}
use Rattle.operation.specs.Operation.{cut, sum, applied, merged, operation_of, code_of, first_operand, second_operand}
use Rattle.operation.proofs.Bits.{and_assoc, xor_assoc, and_xor}

-- ---- cut: the only two laws that see its text
-- what fits a word is kept whole
pub cut-whole : (x : ℕ) → x < 2 ^ 64 → cut x ≡ x
unfolding cut
cut-whole x low = omega arith

-- the cut may be taken inside: what No. 2, 8 and 11 start from
pub cut_inside : (x y : ℕ) → cut (cut x + y) ≡ cut (x + y)
unfolding cut
cut_inside x y = omega arith

pub cut_again : (x : ℕ) → cut (cut x) ≡ cut x
cut_again x = ap cut (omega arith) ∙ cut_inside x 0 ∙ ap cut (omega arith)

-- ---- sum
sum-assoc : (x y z : ℕ) → sum x (sum y z) ≡ sum (sum x y) z
unfolding sum
sum-assoc x y z = rw (add_comm x (cut (y + z)), cut_inside (y + z) x, cut_inside (x + y) z) (ap cut (omega arith))

-- ---- applied
-- "load: f(x) = x"; "add: f(x) = x + first, modulo 2^64"
pub load-applied : (x : ℕ) → applied Load x ≡ x
unfolding applied
load-applied x = refl

pub add-applied : (a x : ℕ) → applied (Add a) x ≡ cut (x + a)
unfolding applied sum
add-applied a x = refl

-- ---- codes
-- an operation's code is a byte: what holds it in memory needs no other law of codes
pub code-byte : (f : Operation) → code_of f < 256
unfolding code_of
code-byte Load = omega arith
code-byte (Swap v) = omega arith
code-byte (Add a) = omega arith
code-byte (Mask a b) = omega arith

-- ---- merged
-- "add then mask, and mask then add, do not merge, even where an operand makes one of them harmless"
pub add-mask-never : (a b c : ℕ) → merged (Add a) (Mask b c) ≡ None
unfolding merged
add-mask-never a b c = refl

pub mask-add-never : (a b c : ℕ) → merged (Mask a b) (Add c) ≡ None
unfolding merged
mask-add-never a b c = refl

-- "load then g is g; f then load is f"
pub load-then : (g : Operation) → merged Load g ≡ Some g
unfolding merged
load-then g = refl

pub then-load : (f : Operation) → merged f Load ≡ Some f
unfolding merged applied
then-load Load = refl
then-load (Swap v) = refl
then-load (Add a) = refl
then-load (Mask a b) = refl

-- "add a then add b is add of a + b modulo 2^64"
pub add-then-add : (a b : ℕ) → merged (Add a) (Add b) ≡ Some (Add (cut (a + b)))
unfolding merged sum
add-then-add a b = refl

-- ---- "Wherever two merge, the merged operation applied to any x gives g(f(x))."
abbrev Applies : Operation → Operation → Option Operation → Type 0
Applies f g None = Unit {0}
Applies f g (Some h) = (x : ℕ) → applied h x ≡ applied g (applied f x)

applies : (f g : Operation) → Applies f g (merged f g)
unfolding merged applied
applies Load g = λ x. refl
applies (Swap v) g = λ x. refl
applies (Add a) Load = λ x. refl
applies (Add a) (Swap v) = λ x. refl
applies (Add a) (Add b) = λ x. sum-assoc x a b
applies (Add a) (Mask c d) = tt
applies (Mask a b) Load = λ x. refl
applies (Mask a b) (Swap v) = λ x. refl
applies (Mask a b) (Add c) = tt
applies (Mask a b) (Mask c d) = λ x. simp (and_xor, and_assoc, xor_assoc)

pub merge-applies : (f g h : Operation) → merged f g ≡ Some h → (x : ℕ) → applied h x ≡ applied g (applied f x)
merge-applies f g h e = subst (Applies f g) e (applies f g)

-- ---- codes and operands name the operation
pub operation-words : (f : Operation) → operation_of (code_of f) (first_operand f) (second_operand f) ≡ f
unfolding operation_of code_of first_operand second_operand
operation-words Load = refl
operation-words (Swap v) = refl
operation-words (Add a) = refl
operation-words (Mask a b) = refl
