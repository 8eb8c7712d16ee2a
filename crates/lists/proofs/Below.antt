-- Laws of `list_below` and `down_from`: their lengths and elements, one more, one less, and a search in them.
use Prim.Native.Nat.{ℕ, zero, suc, ◌+◌, ◌-◌, ◌≤◌, ◌<◌}
use mathlib.Core.Path.{◌≡◌, refl, sym, ◌∙◌, ap, ap₂}
use mathlib.Core.Bool.{Bool, true, false}
use mathlib.Core.List.{List, [], ◌∷◌, ◌++◌, append_assoc, append-nil}
use native.Mathlib.Nat.{add-suc, add-zero}
use native.Mathlib.Decide.{dec_lt}
use native.Mathlib.Omega.{arith}
use lib.ListN.{length, get_or, take, drop, length-append, get_or-append}
use lib.Seq.{get_or_at, take_at, drop_at, split_at, ext_get_or}
use Rattle.lists.specs.Table.{list_below, down_from}
use Rattle.lists.specs.Search.{absent, found, first_of, last_of, All, nil, cons}
use Rattle.lists.proofs.Tests.{by_cases}
use Rattle.lists.proofs.Every.{all_append}
use Rattle.lists.proofs.Searches.{first_of-none, first_of-at, last_of_none, last_of_at}

module _ {A : Type 0} where
  -- ---- ascending

  pub length-below : (n : ℕ) (f : ℕ → A) → length (list_below n f) ≡ n
  unfolding list_below
  length-below zero f = refl
  length-below (suc n) f = omega (arith, length-append (list_below n f) (f n ∷ []), length-below n f)

  pub get_or-below : (d : A) (n : ℕ) (f : ℕ → A) (i : ℕ) → i < n → get_or (list_below n f) i d ≡ f i
  unfolding list_below
  get_or-below d zero f i l = absurd (omega arith)
  get_or-below d (suc n) f i l = by_cases (dec_lt i n)
      (λ (m : i < n). get_or-append (list_below n f) (f n ∷ []) d i (omega (arith, length-below n f)) ∙ get_or-below d n f i m)
      (λ (m : ¬ (i < n)). let e : n ≡ i = omega arith in get_or_at (list_below n f) (f n) [] d i (length-below n f ∙ e) ∙ ap f e)

  -- a list whose elements are those
  pub below-is : (d : A) (n : ℕ) (f : ℕ → A) (l : List A) → length l ≡ n → ((i : ℕ) → i < n → get_or l i d ≡ f i) → l ≡ list_below n f
  below-is d n f l size same =
      ext_get_or d l (list_below n f) (size ∙ sym (length-below n f)) (λ i h. let m : i < n = omega arith in same i m ∙ sym (get_or-below d n f i m))

  pub below-same : (n : ℕ) (f g : ℕ → A) → ((i : ℕ) → i < n → f i ≡ g i) → list_below n f ≡ list_below n g
  unfolding list_below
  below-same zero f g h = refl
  below-same (suc n) f g h = rw (below-same n f g (λ i l. h i (omega arith)), h n (omega arith))

  pub all-below : {P : A → Type 0} (n : ℕ) (f : ℕ → A) → ((i : ℕ) → i < n → P (f i)) → All P (list_below n f)
  unfolding list_below
  all-below zero f h = nil
  all-below (suc n) f h = all_append (all-below n f (λ i l. h i (omega arith))) (cons (h n (omega arith)) nil)

  pub below-add : (m n : ℕ) (f : ℕ → A) → list_below (m + n) f ≡ list_below m f ++ list_below n (λ j. f (m + j))
  unfolding list_below
  below-add m zero f = rw (add-zero, append-nil)
  below-add m (suc n) f = rw (add-suc, below-add m n f, append_assoc)

  module _ (n : ℕ) (f : ℕ → A) (i : ℕ) (l : i ≤ n) where
    parts : list_below n f ≡ list_below i f ++ list_below (n - i) (λ j. f (i + j))
    parts = let e : n ≡ i + (n - i) = omega arith in ap (λ (m : ℕ). list_below m f) e ∙ below-add i (n - i) f

    pub take_below : take i (list_below n f) ≡ list_below i f
    take_below = rw parts (take_at (list_below i f) (list_below (n - i) (λ j. f (i + j))) i (length-below i f))

    pub drop-below : drop i (list_below n f) ≡ list_below (n - i) (λ j. f (i + j))
    drop-below = rw parts (drop_at (list_below i f) (list_below (n - i) (λ j. f (i + j))) i (length-below i f))

  -- g has what f has, but for that at i: those above it move down
  pub below-without : (n : ℕ) (f g : ℕ → A) (i : ℕ) → i < n → ((j : ℕ) → j < i → g j ≡ f j) → ((j : ℕ) → i ≤ j → g j ≡ f (suc j)) →
      list_below (n - 1) g ≡ take i (list_below n f) ++ drop (suc i) (list_below n f)
  below-without n f g i l below above =
      let e : n - 1 - i ≡ n - suc i = omega arith in
      parts (n - 1) g i (omega arith)
      ∙ ap₂ (λ (xs ys : List A). xs ++ ys)
      (below-same i g f below ∙ sym (take_below n f i (omega arith)))
      (ap (λ (m : ℕ). list_below m (λ j. g (i + j))) e
      ∙ below-same (n - suc i) (λ j. g (i + j)) (λ j. f (suc i + j)) (λ j h. above (i + j) (omega arith) ∙ ap f (omega arith))
      ∙ sym (drop-below n f (suc i) l))

  module _ (test : A → Bool) (n : ℕ) (f : ℕ → A) where
    pub first_of-below-none : ((i : ℕ) → i < n → test (f i) ≡ false) → first_of test (list_below n f) ≡ absent
    first_of-below-none h = first_of-none test (all-below n f h)

    pub first_of-below : (i : ℕ) → i < n → test (f i) ≡ true → ((j : ℕ) → j < i → test (f j) ≡ false) →
        first_of test (list_below n f) ≡ found (take i (list_below n f)) (f i) (drop (suc i) (list_below n f))
    first_of-below i l e h =
        ap (first_of test) (split_at (list_below n f) i (f i) (omega (arith, length-below n f)) ∙ rw (get_or-below (f i) n f i l))
        ∙ first_of-at test (f i) (drop (suc i) (list_below n f)) (rw (take_below n f i (omega arith)) (all-below i f h)) e

  -- ---- descending

  pub length-down : (n : ℕ) (f : ℕ → A) → length (down_from n f) ≡ n
  unfolding down_from
  length-down zero f = refl
  length-down (suc n) f = ap suc (length-down n f)

  pub get_or-down : (d : A) (n : ℕ) (f : ℕ → A) (i : ℕ) → i < n → get_or (down_from n f) i d ≡ f (n - suc i)
  unfolding down_from
  get_or-down d zero f i l = absurd (omega arith)
  get_or-down d (suc n) f zero l = ap f (omega arith)
  get_or-down d (suc n) f (suc i) l = get_or-down d n f i (omega arith) ∙ ap f (omega arith)

  pub all-down : {P : A → Type 0} (n : ℕ) (f : ℕ → A) → ((i : ℕ) → i < n → P (f i)) → All P (down_from n f)
  unfolding down_from
  all-down zero f h = nil
  all-down (suc n) f h = cons (h n (omega arith)) (all-down n f (λ i l. h i (omega arith)))

  pub down-add : (m n : ℕ) (f : ℕ → A) → down_from (m + n) f ≡ down_from n (λ j. f (m + j)) ++ down_from m f
  unfolding down_from
  down-add m zero f = rw add-zero
  down-add m (suc n) f = rw (add-suc, down-add m n f)

  -- g has one more, below all that f has
  pub down-push : (n : ℕ) (f g : ℕ → A) (t : A) → g 0 ≡ t → ((i : ℕ) → i < n → g (suc i) ≡ f i) → down_from (suc n) g ≡ down_from n f ++ (t ∷ [])
  unfolding down_from
  down-push zero f g t e h = rw e
  down-push (suc n) f g t e h = ap₂ (λ (x : A) (xs : List A). x ∷ xs) (h n (omega arith)) (down-push n f g t e (λ i l. h i (omega arith)))

  -- the first goes, and the others are as they were
  pub down-less : (n : ℕ) (f : ℕ → A) → 0 < n → down_from (n - 1) f ≡ drop 1 (down_from n f)
  unfolding down_from
  down-less zero f h = absurd (omega arith)
  down-less (suc n) f h = let e : suc n - 1 ≡ n = omega arith in rw e

  module _ (test : A → Bool) (n : ℕ) (f : ℕ → A) where
    pub last_of-down-none : ((i : ℕ) → i < n → test (f i) ≡ false) → last_of test (down_from n f) ≡ absent
    last_of-down-none h = last_of_none test (all-down n f h)

    pub last_of-down : (i : ℕ) → i < n → test (f i) ≡ true → ((j : ℕ) → j < i → test (f j) ≡ false) →
        last_of test (down_from n f) ≡ found (down_from (n - suc i) (λ j. f (suc i + j))) (f i) (down_from i f)
    unfolding down_from
    last_of-down i l e h =
        let s : n ≡ suc i + (n - suc i) = omega arith in
        ap (λ (m : ℕ). last_of test (down_from m f)) s
        ∙ ap (last_of test) (down-add (suc i) (n - suc i) f)
        ∙ last_of_at test (down_from (n - suc i) (λ j. f (suc i + j))) (f i) e (all-down i f h)
