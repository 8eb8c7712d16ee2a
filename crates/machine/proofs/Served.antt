-- What the requests of a tree do to one word, and what each of them reads: a tree whose stored operations are faithful is served.
use Prim.Native.Nat.{ℕ, zero, suc}
use mathlib.Core.Path.{◌≡◌, refl, ap, fun_ext}
use mathlib.Core.List.Memᴰ
use mathlib.Core.List.{List, [], ◌∷◌, ◌++◌, Memᴰ}
use native.Mathlib.Omega.{arith}
use Rattle.lists.specs.Search.{All, nil, cons}
use Rattle.lists.specs.Table.{update2}
use Rattle.lists.proofs.Every.{all_head, all_tail, all_append, all_left, all_right}
use Rattle.lists.proofs.Tables.{update2-same}
use Rattle.machine.specs.Setup.{Setup, WaitRecord, Reply, place}
use Rattle.machine.specs.Arrival.{records_of}
use Rattle.machine.proofs.Records.{records-append}
use Rattle.machine.proofs.Tree.{Waits, Tree, leaf, join, in_order, grown, tree_of, records-middle, gone-below}

module _ (S : Setup) where
  open S use {Word, apply, operation_of}

  -- ---- what the requests of a list do to one word
  abbrev pub run_on : List ℕ → Word → Word
  run_on [] x = x
  run_on (t ∷ ts) x = run_on ts (apply (operation_of t) x)

  abbrev pub reads_on : Word → List ℕ → List (Reply S)
  reads_on x [] = []
  reads_on x (t ∷ ts) = record { tag = t; value = x } ∷ reads_on (apply (operation_of t) x) ts

  pub run_on-append : (xs ys : List ℕ) (x : Word) → run_on (xs ++ ys) x ≡ run_on ys (run_on xs x)
  run_on-append [] ys x = refl
  run_on-append (t ∷ xs) ys x = run_on-append xs ys (apply (operation_of t) x)

  reads_on-append : (x : Word) (xs ys : List ℕ) → reads_on x (xs ++ ys) ≡ reads_on x xs ++ reads_on (run_on xs x) ys
  reads_on-append x [] ys = refl
  reads_on-append x (t ∷ xs) ys = ap (λ (l : List (Reply S)). record { tag = t; value = x } ∷ l) (reads_on-append (apply (operation_of t) x) xs ys)

  -- every stored operation does what stands before it
  abbrev pub Faithful : Tree S → Type 0
  Faithful (leaf t) = Unit {0}
  Faithful (join l o r) = Faithful l × ((x : Word) → apply o x ≡ run_on (in_order S l) x) × Faithful r

  -- every request of the tree finds its value in the log, if the root's is v
  abbrev pub Served : List (Reply S) → Tree S → Word → Type 0
  Served log (leaf t) v = Memᴰ (record { tag = t; value = v }) log
  Served log (join l o r) v = Served log l v × Served log r (apply o v)

  abbrev pub Sub : List (Reply S) → List (Reply S) → Type 0
  Sub l m = (r : Reply S) → Memᴰ r l → Memᴰ r m

  pub served-map : (l m : List (Reply S)) → Sub l m → (t : Tree S) (v : Word) → Served l t v → Served m t v
  served-map l m f (leaf t) v h = f _ h
  served-map l m f (join a o b) v h = (served-map l m f a v h.0, served-map l m f b (apply o v) h.1)

  pub faithful-served : (t : Tree S) → Faithful t → (x : Word) (l : List (Reply S)) → Sub (reads_on x (in_order S t)) l → Served l t x
  faithful-served (leaf t) g x l f = f _ (Memᴰ.head refl)
  faithful-served (join a o b) g x l f = (
    faithful-served a g.0 x l (λ r h. f r (rw reads_on-append (Memᴰ.append_left _ h))),
    rw (g.1 x) (faithful-served b g.2 (run_on (in_order S a) x) l (λ r h. f r (rw reads_on-append (Memᴰ.append_right (reads_on x (in_order S a)) h)))),
  )

  served-parts : (l : List (Reply S)) (g : ℕ → Tree S) (t : Tree S) (rs : List (WaitRecord S)) (v : Word) → Served l (grown S g t rs) v
      → Served l t v × All (λ (r : WaitRecord S). Served l (g r.second) (apply r.operation v)) rs
  served-parts l g t [] v h = (h, nil)
  served-parts l g t (r ∷ rs) v h = let z = served-parts l g (join t r.operation (g r.second)) rs v h in (z.0.0, cons z.0.1 z.1)

  parts-served : (l : List (Reply S)) (g : ℕ → Tree S) (v : Word) (t : Tree S) {rs : List (WaitRecord S)} → Served l t v
      → All (λ (r : WaitRecord S). Served l (g r.second) (apply r.operation v)) rs → Served l (grown S g t rs) v
  parts-served l g v t h nil = h
  parts-served l g v t h (cons {x = r} {xs = rs} k ks) = parts-served l g v (join t r.operation (g r.second)) (h, k) ks

  -- a record that goes: its second is served, and its first still is
  module _ (waits : Waits S) (s p : ℕ) (xs : List (WaitRecord S)) (z : WaitRecord S) (ys : List (WaitRecord S)) (is : waits (suc s) p ≡ xs ++ (z ∷ ys)) where
    module _ (on : place S z.first (suc s) ≡ p) (l : List (Reply S)) (v : Word) (h : Served l (tree_of S waits (suc s) z.first) v) where
      -- the records of the first before z and behind it
      abbrev before : List (WaitRecord S)
      before = records_of S z.first xs

      abbrev after : List (WaitRecord S)
      after = records_of S z.first ys

      parts : Served l (tree_of S waits s z.first) v
          × All (λ (r : WaitRecord S). Served l (tree_of S waits s r.second) (apply r.operation v)) (before ++ (z ∷ after))
      unfolding tree_of
      parts =
          let here = records_of S z.first (waits (suc s) (place S z.first (suc s))) in
          rw (records-middle S xs z ys) at (rw is at (rw on at (served-parts l (tree_of S waits s) (tree_of S waits s z.first) here v h)))

      pub gone-second : Served l (tree_of S waits s z.second) (apply z.operation v)
      gone-second = all_head (all_right before parts.1)

      pub gone-first : Served l (tree_of S (update2 waits (suc s) p (xs ++ ys)) (suc s) z.first) v
      unfolding tree_of
      gone-first = rw (on, update2-same, records-append S, fun_ext (λ u. gone-below S waits s p (xs ++ ys) s u (omega arith)))
          (parts-served l (tree_of S waits s) v (tree_of S waits s z.first) parts.0
          (all_append (all_left before _ parts.1) (all_tail (all_right before parts.1))))

  -- the value of a served tree is what the request at its root reads
  pub served-root : (log : List (Reply S)) (waits : Waits S) (s t : ℕ) (v : Word) → Served log (tree_of S waits s t) v
      → Memᴰ (record { tag = t; value = v }) log
  unfolding tree_of
  served-root log waits zero t v h = h
  served-root log waits (suc s) t v h =
      served-root log waits s t v (served-parts log (tree_of S waits s) (tree_of S waits s t) (records_of S t (waits (suc s) (place S t (suc s)))) v h).0
