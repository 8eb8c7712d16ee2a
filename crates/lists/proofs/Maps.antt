-- Laws of `map`: lists, searches and counts seen through a function.
use Prim.Native.Nat.{ℕ}
use mathlib.Core.Path.{◌≡◌, refl, ap}
use mathlib.Core.Bool.{Bool, true, false}
use mathlib.Core.List.{List, [], ◌∷◌, ◌++◌, map}
use native.Mathlib.Omega.{arith}
use lib.ListN.{length}
use Rattle.lists.specs.Choice.{choose}
use Rattle.lists.specs.Search.{Found, absent, found, behind, or_else, first_of, last_of, All, nil, cons}
use Rattle.lists.specs.Count.{count}

module _ {A B : Type 0} (f : A → B) where
  pub map-append : (xs ys : List A) → map f (xs ++ ys) ≡ map f xs ++ map f ys
  map-append [] ys = refl
  map-append (x ∷ xs) ys = rw (map-append xs ys)

  pub map-none : (l : List A) → map f l ≡ [] → l ≡ []
  map-none [] e = refl
  map-none (x ∷ l) e = absurd (omega (arith, ap length e))

  -- what a list shows through two functions that agree on it
  pub map_same : (g : A → B) {l : List A} → All (λ x. g x ≡ f x) l → map g l ≡ map f l
  map_same g nil = refl
  map_same g (cons e h) = rw (e, map_same g h)

  pub count_map : (key : B → ℕ) (u : ℕ) (l : List A) → count key u (map f l) ≡ count (λ x. key (f x)) u l
  count_map key u [] = refl
  count_map key u (x ∷ xs) = rw (count_map key u xs)

  -- ---- searches
  abbrev pub found_map : Found A → Found B
  found_map absent = absent
  found_map (found before it after) = found (map f before) (f it) (map f after)

  behind-map : (x : A) (r : Found A) → behind (f x) (found_map r) ≡ found_map (behind x r)
  behind-map x absent = refl
  behind-map x (found before it after) = refl

  module _ (test : B → Bool) where
    -- the test of what an element shows
    abbrev through : A → Bool
    through x = test (f x)

    pub first_of-map : (l : List A) → first_of test (map f l) ≡ found_map (first_of through l)
    unfolding first_of
    first_of-map [] = refl
    first_of-map (x ∷ xs) = rw (first_of-map xs, behind-map) (go (through x) (behind x (first_of through xs)))
      where
        go : (b : Bool) (r : Found A) → choose b (found [] (f x) (map f xs)) (found_map r) ≡ found_map (choose b (found [] x xs) r)
        go true r = refl
        go false r = refl

    pub last_of-map : (l : List A) → last_of test (map f l) ≡ found_map (last_of through l)
    unfolding last_of
    last_of-map [] = refl
    last_of-map (x ∷ xs) = rw (last_of-map xs) (go (last_of through xs) (through x))
      where
        go : (r : Found A) (b : Bool) → or_else (behind (f x) (found_map r)) (choose b (found [] (f x) (map f xs)) absent) ≡
            found_map (or_else (behind x r) (choose b (found [] x xs) absent))
        go absent true = refl
        go absent false = refl
        go (found before it after) b = refl
