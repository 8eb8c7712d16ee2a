-- Who stands in the tree of a request: requests of the same word, at the same position.
use Prim.Native.Nat.{ℕ, zero, suc}
use mathlib.Core.Path.{◌≡◌, refl, sym, ◌∙◌, ap}
use mathlib.Core.List.{List}
use Rattle.lists.specs.Search.{All, nil, cons}
use Rattle.lists.proofs.Every.{all_map, all_append}
use Rattle.machine.specs.Setup.{Setup, WaitRecord, place}
use Rattle.machine.specs.State.{stands_for, seconds}
use Rattle.machine.specs.Inner.Lawful.{Lawful}
use Rattle.machine.proofs.Records.{records-all}
use Rattle.machine.proofs.Tree.{Waits, in_order, tree_of, stands-tree}

module _ (S : Setup) where
  open S use {engine_of, address_of, position}

  -- ---- who stands in a tree: requests of the same word at the same place
  abbrev pub Link : ℕ → ℕ → WaitRecord S → Type 0
  Link s p r = (place S r.first s ≡ p) × (place S r.second s ≡ p) × (address_of r.first ≡ address_of r.second)

  abbrev pub Near : ℕ → ℕ → ℕ → Type 0
  Near s t u = (address_of u ≡ address_of t) × (place S u s ≡ place S t s)

  all-seconds : {P : ℕ → Type 0} (up_to : ℕ → List ℕ) {rs : List (WaitRecord S)} → All (λ (r : WaitRecord S). All P (up_to r.second)) rs
      → All P (seconds S up_to rs)
  all-seconds up_to nil = nil
  all-seconds up_to (cons h t) = all_append h (all-seconds up_to t)

  module _ (law : Lawful S) where
    near-onward : (s t u : ℕ) → Near s t u → Near (suc s) t u
    near-onward s t u h =
        let here = h.1 ∙ ap (λ (a : ℕ). position (engine_of t) a s) (sym h.0) in
        (h.0, law.position-onward (engine_of u) (engine_of t) (address_of u) s here ∙ ap (λ (a : ℕ). position (engine_of t) a (suc s)) h.0)

    members : (waits : Waits S) → ((s p : ℕ) → All (Link s p) (waits s p)) → (s t : ℕ) → All (Near s t) (stands_for S waits s t)
    unfolding stands_for
    members waits ok zero t = cons (refl, refl) nil
    members waits ok (suc s) t =
        all_append (all_map (near-onward s t) (members waits ok s t))
        (all-seconds (stands_for S waits s)
        (all_map (λ r h. all_map (λ u n. beside r u h (near-onward s r.second u n)) (members waits ok s r.second))
        (records-all S t (ok (suc s) (place S t (suc s))))))
      where
        -- one near the second of a record is near its first
        beside : (r : WaitRecord S) (u : ℕ) → Link (suc s) (place S t (suc s)) r × (r.first ≡ t) → Near (suc s) r.second u → Near (suc s) t u
        beside r u h m = (m.0 ∙ sym h.0.2 ∙ ap address_of h.1, m.1 ∙ h.0.1)

    pub near : (waits : Waits S) → ((s p : ℕ) → All (Link s p) (waits s p)) → (s t : ℕ) → All (Near s t) (in_order S (tree_of S waits s t))
    near waits ok s t = rw (stands-tree S waits s t) at (members waits ok s t)
