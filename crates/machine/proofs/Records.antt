-- Laws of `records_of`: the wait records of one first tag.
use Prim.Native.Nat.{ℕ}
use mathlib.Core.Path.{◌≡◌, refl, sym}
use mathlib.Core.Logic.{◌≢◌}
use mathlib.Core.List.{List, [], ◌∷◌, ◌++◌}
use lib.Dec.{eqb}
use borrow.Author.Tests.{eq-eqb, ne_eqb, eqb-true, eqb-false}
use Rattle.lists.specs.Search.{All}
use Rattle.lists.proofs.Every.{all_map}
use Rattle.lists.proofs.Searches.{only-append, only_yes, only_no, only_none, none_only, only-all}
use Rattle.machine.specs.Setup.{Setup, WaitRecord}
use Rattle.machine.specs.Arrival.{records_of}

module _ (S : Setup) (t : ℕ) where
  pub records-append : (xs ys : List (WaitRecord S)) → records_of S t (xs ++ ys) ≡ records_of S t xs ++ records_of S t ys
  unfolding records_of
  records-append = only-append (λ (r : WaitRecord S). eqb r.first t)

  pub records-all : {P : WaitRecord S → Type 0} {xs : List (WaitRecord S)} → All P xs → All (λ r. P r × (r.first ≡ t)) (records_of S t xs)
  unfolding records_of
  records-all h = all_map (λ r k. (k.0, eqb-true r.first t k.1)) (only-all (λ (r : WaitRecord S). eqb r.first t) h)

  pub records-none : {xs : List (WaitRecord S)} → All (λ r. r.first ≢ t) xs → records_of S t xs ≡ []
  unfolding records_of
  records-none h = only_none (λ (r : WaitRecord S). eqb r.first t) (all_map (λ r n. ne_eqb r.first t n) h)

  pub none-records : (xs : List (WaitRecord S)) → records_of S t xs ≡ [] → All (λ r. r.first ≢ t) xs
  unfolding records_of
  none-records xs e = all_map (λ r n. eqb-false r.first t n) (none_only (λ (r : WaitRecord S). eqb r.first t) xs e)

  pub records-other : (r : WaitRecord S) (rs : List (WaitRecord S)) → t ≢ r.first → records_of S t (r ∷ rs) ≡ records_of S t rs
  unfolding records_of
  records-other r rs n = only_no (λ (r : WaitRecord S). eqb r.first t) rs (ne_eqb r.first t (λ e. n (sym e)))

-- a record of its own first tag
pub records-own : (S : Setup) (r : WaitRecord S) (rs : List (WaitRecord S)) → records_of S r.first (r ∷ rs) ≡ r ∷ records_of S r.first rs
unfolding records_of
records-own S r rs = only_yes (λ (z : WaitRecord S). eqb z.first r.first) rs (eq-eqb r.first r.first refl)
