-- Only one result and one content of the lent memory keep each promise: document 01, "How tightly the statements bind". And the six
-- numbers tell each answer from every other.
use Prim.Native.Nat.{ℕ, ◌≤◌}
use mathlib.Core.Path.{◌≡◌, sym, ◌∙◌, ap}
use mathlib.Core.List.{List}
use native.Mathlib.Omega.{arith}
use Rattle.std.specs.Prelude.{Ok, Err}
use Rattle.trace.proofs.Answers.{number-range}
use Rattle.std.specs.Prelude.{Option, unwrap_or}
use Rattle.report.proofs.Unique.{only_one as only-one-written}
use Rattle.listing.proofs.Unique.{only_one as only-one-printed}
use Rattle.model.specs.Result.{Lent}
use Rattle.model.specs.Promise.{Said, refused, counted, Answer, says}
use Rattle.model.specs.declared.Refusal.TheVariants.{Trace, NoRoom}
use Rattle.model.proofs.Unique.{says-injective}
use Rattle.whetbracken.specs.Interface.{numbers, Answered, Wrote, ItemsPrinted}
use Rattle.whetbracken.specs.declared.Numbers.{Numbers}
use Rattle.whetbracken.proofs.Answers.{numbers-said, memory-left}

pub only_one : (trace : List ℕ) (before : Lent) (r r' : Numbers) (m m' : Lent) → Answered trace before r m → Answered trace before r' m' → (r ≡ r') × (m ≡ m')
only_one trace before r r' m m' p p' = (numbers-said p ∙ sym (numbers-said p'), memory-left p ∙ sym (memory-left p'))

pub only-one-report : (trace before : List ℕ) (n n' : ℕ) (after after' : List ℕ) → Wrote trace before n after → Wrote trace before n' after' →
    (n ≡ n') × (after ≡ after')
only-one-report trace before n n' after after' p p' =
    let z = only-one-written trace before p.written p'.written after after' p.reported p'.reported in
    (p.len_is ∙ ap (λ (w : Option ℕ). unwrap_or w 0) z.0 ∙ sym p'.len_is, z.1)

pub only-one-listing : (trace before : List ℕ) (n n' : ℕ) (after after' : List ℕ) → ItemsPrinted trace before n after → ItemsPrinted trace before n' after' →
    (n ≡ n') × (after ≡ after')
only-one-listing trace before n n' after after' p p' =
    let z = only-one-printed trace before p.printed p'.printed after after' p.listed p'.listed in
    (p.len_is ∙ ap (λ (w : Option ℕ). unwrap_or w 0) z.0 ∙ sym p'.len_is, z.1)

-- ---- no refusal has number 0
abbrev Numbered : Said → Type 0
Numbered (refused n offset) = 1 ≤ n
Numbered (counted ordered accesses merges rounds) = Unit {0}

numbered : (a : Answer) → Numbered (says a)
numbered (Ok c) = tt
numbered (Err (Trace r)) = (number-range r.fault).0
numbered (Err NoRoom) = omega arith

refusal_is : {r r' : Numbers} → r ≡ r' → r.refusal ≡ r'.refusal
refusal_is e = ap (λ (r : Numbers). r.refusal) e

said-tell : (s t : Said) → Numbered s → Numbered t → numbers s ≡ numbers t → s ≡ t
said-tell (refused n o) (refused n' o') h h' e =
    let number : n ≡ n' = refusal_is e in
    let offset : o ≡ o' = ap (λ (r : Numbers). r.offset) e in
    cc
said-tell (refused n o) (counted a b c d) h h' e = absurd (omega (arith, refusal_is e))
said-tell (counted a b c d) (refused n o) h h' e = absurd (omega (arith, refusal_is e))
said-tell (counted a b c d) (counted a' b' c' d') h h' e =
    let ordered : a ≡ a' = ap (λ (r : Numbers). r.ordered) e in
    let accesses : b ≡ b' = ap (λ (r : Numbers). r.accesses) e in
    let merges : c ≡ c' = ap (λ (r : Numbers). r.merges) e in
    let rounds : d ≡ d' = ap (λ (r : Numbers). r.rounds) e in
    cc

pub numbers-tell : (a b : Answer) → numbers (says a) ≡ numbers (says b) → a ≡ b
numbers-tell a b e = says-injective a b (said-tell (says a) (says b) (numbered a) (numbered b) e)
