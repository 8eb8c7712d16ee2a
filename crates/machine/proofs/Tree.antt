-- The requests that a message stands for as a tree: who was merged into whom, with the operation stored for it.
use Prim.Native.Nat.{ℕ, zero, suc, ◌≤◌}
use mathlib.Core.Path.{◌≡◌, refl, sym, ◌∙◌, fun_ext}
use mathlib.Core.Logic.{◌≢◌}
use mathlib.Core.List.{List, [], ◌∷◌, ◌++◌, append_assoc, append-nil}
use native.Mathlib.Omega.{arith}
use Rattle.lists.specs.Search.{All, nil, cons}
use Rattle.lists.specs.Table.{update2}
use Rattle.lists.proofs.Every.{all_map}
use Rattle.lists.proofs.Tables.{update2-same, update2-level, update2-ind}
use Rattle.machine.specs.Setup.{Setup, WaitRecord, place}
use Rattle.machine.specs.Arrival.{records_of}
use Rattle.machine.specs.State.{stands_for, seconds}
use Rattle.machine.proofs.Records.{records-append, records-all, records-none, records-own, records-other}

module _ (S : Setup) where
  open S use {Operation}

  -- the wait buffers, by level and position
  abbrev pub Waits : Type 0
  Waits = ℕ → ℕ → List (WaitRecord S)

  -- ---- the tree of a request
  pub data Tree : Type 0 where
    leaf : ℕ → Tree
    join : Tree → Operation → Tree → Tree

  abbrev pub in_order : Tree → List ℕ
  in_order (leaf t) = t ∷ []
  in_order (join l o r) = in_order l ++ in_order r

  abbrev pub grown : (ℕ → Tree) → Tree → List (WaitRecord S) → Tree
  grown g l [] = l
  grown g l (r ∷ rs) = grown g (join l r.operation (g r.second)) rs

  unfoldable pub tree_of : Waits → ℕ → ℕ → Tree
  tree_of waits zero t = leaf t
  tree_of waits (suc s) t = grown (tree_of waits s) (tree_of waits s t) (records_of S t (waits (suc s) (place S t (suc s))))

  order-grown : (g : ℕ → Tree) (l : Tree) (rs : List (WaitRecord S)) → in_order (grown g l rs) ≡ in_order l ++ seconds S (λ u. in_order (g u)) rs
  order-grown g l [] = sym (append-nil (in_order l))
  order-grown g l (r ∷ rs) = rw (order-grown g (join l r.operation (g r.second)) rs, append_assoc)

  pub stands-tree : (waits : Waits) (s t : ℕ) → stands_for S waits s t ≡ in_order (tree_of waits s t)
  unfolding stands_for tree_of
  stands-tree waits zero t = refl
  stands-tree waits (suc s) t = rw (order-grown, stands-tree waits s t, fun_ext (λ u. stands-tree waits s u))

  grown-append : (g : ℕ → Tree) (l : Tree) (xs ys : List (WaitRecord S)) → grown g l (xs ++ ys) ≡ grown g (grown g l xs) ys
  grown-append g l [] ys = refl
  grown-append g l (x ∷ xs) ys = grown-append g (join l x.operation (g x.second)) xs ys

  grown-eq : (g h : ℕ → Tree) (l : Tree) {rs : List (WaitRecord S)} → All (λ r. g r.second ≡ h r.second) rs → grown g l rs ≡ grown h l rs
  grown-eq g h l nil = refl
  grown-eq g h l (cons {x = r} {xs = rs} e es) = rw e (grown-eq g h (join l r.operation (h r.second)) es)

  -- AGREE: records with the first tag x change no other tree, where x is nobody's second tag
  agree : (x : ℕ) (waits waits' : Waits) → ((s p u : ℕ) → u ≢ x → records_of S u (waits' s p) ≡ records_of S u (waits s p))
      → ((s p : ℕ) → All (λ (r : WaitRecord S). r.second ≢ x) (waits s p)) → (s u : ℕ) → u ≢ x → tree_of waits' s u ≡ tree_of waits s u
  unfolding tree_of
  agree x waits waits' same free zero u n = refl
  agree x waits waits' same free (suc s) u n = rw (same (suc s) (place S u (suc s)) u n, agree x waits waits' same free s u n)
      (grown-eq (tree_of waits' s) (tree_of waits s) (tree_of waits s u)
      (all_map (λ r h. agree x waits waits' same free s r.second h.0) (records-all S u (free (suc s) (place S u (suc s))))))

  -- a tree up to level s looks at the buffers up to level s only
  below : (waits waits' : Waits) (j : ℕ) → ((s p : ℕ) → s ≤ j → waits' s p ≡ waits s p) → (s u : ℕ) → s ≤ j → tree_of waits' s u ≡ tree_of waits s u
  unfolding tree_of
  below waits waits' j same zero u h = refl
  below waits waits' j same (suc s) u h = rw (same (suc s) (place S u (suc s)) h, fun_ext (λ v. below waits waits' j same s v (omega arith)))

  -- the records that are added or go, at one place
  pub tree-onward : (waits : Waits) (s t : ℕ) → records_of S t (waits (suc s) (place S t (suc s))) ≡ [] → tree_of waits (suc s) t ≡ tree_of waits s t
  unfolding tree_of
  tree-onward waits s t e = rw e

  -- whatever comes to stand at a level, a tree below it does not change
  pub gone-below : (waits : Waits) (s p : ℕ) (l : List (WaitRecord S)) (j u : ℕ) → j ≤ s → tree_of (update2 waits (suc s) p l) j u ≡ tree_of waits j u
  gone-below waits s p l j u h = below waits (update2 waits (suc s) p l) s (λ i q k. update2-level waits (suc s) p _ i q (omega arith)) j u h

  -- a merge: the tree of the first gets the tree of the second behind it
  pub tree-join : (waits : Waits) (s p : ℕ) (r : WaitRecord S) → place S r.first (suc s) ≡ p
      → let after = update2 waits (suc s) p (waits (suc s) p ++ (r ∷ [])) in
      tree_of after (suc s) r.first ≡ join (tree_of waits (suc s) r.first) r.operation (tree_of waits s r.second)
  unfolding tree_of
  tree-join waits s p r e =
      let after = update2 waits (suc s) p (waits (suc s) p ++ (r ∷ [])) in
      let same : tree_of after s ≡ tree_of waits s = fun_ext (λ v. gone-below waits s p (waits (suc s) p ++ (r ∷ [])) s v (omega arith)) in
      rw (e, update2-same, records-append S, records-own S r [], records-none S r.first nil, same, grown-append)

  -- and no other tree changes
  pub tree-other : (waits : Waits) (s p : ℕ) (r : WaitRecord S) → ((j q : ℕ) → All (λ (z : WaitRecord S). z.second ≢ r.first) (waits j q))
      → (j u : ℕ) → u ≢ r.first → tree_of (update2 waits s p (waits s p ++ (r ∷ []))) j u ≡ tree_of waits j u
  tree-other waits s p r free =
      agree r.first waits (update2 waits s p (waits s p ++ (r ∷ [])))
      (λ j q u n. update2-ind waits s p (waits s p ++ (r ∷ [])) (λ j q l. records_of S u l ≡ records_of S u (waits j q))
      (records-append S u (waits s p) (r ∷ []) ∙ rw (records-other S u r [] n, records-none S u nil) (append-nil (records_of S u (waits s p))))
      (λ _ _ _. refl) j q) free

  -- ---- a record that goes: z, of the first tag z .first
  pub records-middle : (xs : List (WaitRecord S)) (z : WaitRecord S) (ys : List (WaitRecord S))
      → records_of S z.first (xs ++ (z ∷ ys)) ≡ records_of S z.first xs ++ (z ∷ records_of S z.first ys)
  records-middle xs z ys = rw (records-append S z.first xs (z ∷ ys), records-own S z ys)

  module _ (waits : Waits) (s p : ℕ) (xs : List (WaitRecord S)) (z : WaitRecord S) (ys : List (WaitRecord S)) (is : waits (suc s) p ≡ xs ++ (z ∷ ys)) where
    pub gone-other : ((j q : ℕ) → All (λ (r : WaitRecord S). r.second ≢ z.first) (waits j q)) → (j u : ℕ) → u ≢ z.first
        → tree_of (update2 waits (suc s) p (xs ++ ys)) j u ≡ tree_of waits j u
    gone-other free =
        agree z.first waits (update2 waits (suc s) p (xs ++ ys))
        (λ j q u n. update2-ind waits (suc s) p (xs ++ ys) (λ j q l. records_of S u l ≡ records_of S u (waits j q))
        (rw (is, records-append S, records-append S u xs (z ∷ ys), records-other S u z ys n)) (λ _ _ _. refl) j q) free
