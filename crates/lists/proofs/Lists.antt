-- Lists that are empty or not, and the first of those that are not.
use Prim.Native.Nat.{ℕ, zero, ◌<◌}
use mathlib.Core.Path.{◌≡◌, refl, sym, ap, ◌∙◌}
use mathlib.Core.Logic.{◌≢◌}
use mathlib.Core.List.{List, [], ◌∷◌}
use native.Mathlib.Omega.{arith}
use lib.ListN.{length, get_or, drop}
use lib.Seq.{drop-cons}

module _ {A : Type 0} where
  pub length_none : (l : List A) → length l ≡ 0 → l ≡ []
  length_none [] e = refl
  length_none (x ∷ l) e = absurd (omega arith)

  pub length_some : (l : List A) → l ≢ [] → 0 < length l
  length_some [] n = absurd (n refl)
  length_some (x ∷ l) n = omega arith

-- the first of some numbers, and those behind it
pub first-is : (l : List ℕ) (x : ℕ) → 0 < length l → x ≡ get_or l 0 0 → l ≡ x ∷ drop 1 l
first-is l x h e = drop-cons l zero 0 h ∙ ap (λ (y : ℕ). y ∷ drop 1 l) (sym e)
