-- What a test that holds, and a number of 0, say.
use Prim.Native.Nat.{ℕ, zero, suc}
use mathlib.Core.Path.{◌≡◌, refl}
use mathlib.Core.Bool.{Bool, true, false, not}
use native.Mathlib.Omega.{arith}
use lib.Dec.{eqb}
use Rattle.lists.specs.Choice.{choose}
use Rattle.trace.specs.Refusals.{unless, or_else}

pub unless-zero : (t : Bool) (n : ℕ) → unless t (suc n) ≡ 0 → t ≡ true
unless-zero true n h = refl
unless-zero false n h = let z : ⊥ = omega arith in elim z [ ]

pub or-else-zero : (n m : ℕ) → or_else n m ≡ 0 → (n ≡ 0) × (m ≡ 0)
unfolding or_else
or-else-zero zero m h = (refl, h)
or-else-zero (suc n) m h = let z : ⊥ = omega arith in elim z [ ]

-- a mark is 1 where the word was given
pub mark-test : (t : Bool) → unless (eqb (choose t 1 0) 0) 6 ≡ unless (not t) 6
mark-test true = refl
mark-test false = refl
