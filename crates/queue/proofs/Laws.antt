-- The words of a queue and of a wait buffer as lists: one more, one less, the oldest, and the oldest with a tag.
use Prim.Native.Nat.{ℕ, suc, ◌+◌, ◌-◌, ◌≤◌, ◌<◌}
use mathlib.Core.Path.{◌≡◌, sym, ◌∙◌, ap, ap₂}
use mathlib.Core.Logic.{◌≢◌}
use mathlib.Core.Bool.{Bool}
use mathlib.Core.List.{List, [], ◌∷◌, ◌++◌}
use native.Mathlib.Numerals.{add-one}
use native.Mathlib.Omega.{arith}
use lib.ListN.{get_or, take, drop}
use lib.Dec.{eqb}
use borrow.Author.Tests.{eq-eqb, ne_eqb}
use Rattle.lists.specs.Table.{list_below}
use Rattle.lists.specs.Search.{first_of, found}
use Rattle.lists.specs.Inner.Pair.{Pair}
use Rattle.lists.proofs.Below.{get_or-below, below-same, below-without, first_of-below, first_of-below-none, get_or-down, down-push}
use Rattle.words.specs.Inner.Digits.{byte_in, Pushed, Topped, Without, PlaceOf}
use Rattle.queue.specs.Inner.Queue.{tags_in, pair_in, pairs_in, no_pair, found_at}
use Rattle.std.proofs.Common.{Option, None, Some}

-- ---- tags

pub tags-push : (w n : ℕ) {t r : ℕ} → n < 8 → Pushed w t r → tags_in r (n + 1) ≡ tags_in w n ++ (t ∷ [])
tags-push w n {t} {r} l h = rw add-one (down-push n (byte_in w) (byte_in r) t h.lowest (λ i m. h.above i (omega arith)))

pub tags-oldest : (w n : ℕ) → 0 < n → byte_in w (n - 1) ≡ get_or (tags_in w n) 0 0
tags-oldest w n l = sym (get_or-down 0 n (byte_in w) 0 l)

-- ---- pairs

pair_is : {a b c d : ℕ} → a ≡ c → b ≡ d → ◌≡◌ {A = Pair} (record { first = a; second = b }) (record { first = c; second = d })
pair_is p q = λ i. record { first = p i; second = q i }

-- what `Pairs::find` looks for
abbrev pub first_is : ℕ → Pair → Bool
first_is t p = eqb p.first t

module _ (firsts seconds n : ℕ) where
  pub pairs-at : (i : ℕ) → i < n → get_or (pairs_in firsts seconds n) i no_pair ≡ pair_in firsts seconds i
  pairs-at i l = get_or-below no_pair n (pair_in firsts seconds) i l

  pub pairs-push : {a b firsts' seconds' : ℕ} → Topped firsts n a firsts' → Topped seconds n b seconds' →
      pairs_in firsts' seconds' (n + 1) ≡ pairs_in firsts seconds n ++ (record { first = a; second = b } ∷ [])
  unfolding list_below
  pairs-push {firsts' = firsts'} {seconds' = seconds'} h h' =
      rw add-one (ap₂ (λ (l : List Pair) (p : Pair). l ++ (p ∷ []))
      (below-same n (pair_in firsts' seconds') (pair_in firsts seconds) (λ i l. pair_is (h.below i l) (h'.below i l)))
      (pair_is h.highest h'.highest))

  pub pairs-without : {i firsts' seconds' : ℕ} → i < n → Without firsts i firsts' → Without seconds i seconds' →
      pairs_in firsts' seconds' (n - 1) ≡ take i (pairs_in firsts seconds n) ++ drop (suc i) (pairs_in firsts seconds n)
  pairs-without {i} {firsts'} {seconds'} l h h' =
      below-without n (pair_in firsts seconds) (pair_in firsts' seconds') i l
      (λ j m. pair_is (h.below j m) (h'.below j m)) (λ j m. pair_is (h.above j m) (h'.above j m))

  -- "The oldest record with the first tag"
  module _ (t : ℕ) (small : n ≤ 8) where
    abbrev Found : Option ℕ → Type 0
    Found o = found_at (pairs_in firsts seconds n) o ≡ first_of (first_is t) (pairs_in firsts seconds n)

    -- at the lowest place that has it, of those in use
    pub found-there : {i : ℕ} → PlaceOf 8 firsts t i → i < n → Found (Some i)
    found-there {i} h l =
        ap (λ (p : Pair). found (take i (pairs_in firsts seconds n)) p (drop (suc i) (pairs_in firsts seconds n))) (pairs-at i l)
        ∙ sym (first_of-below (first_is t) n (pair_in firsts seconds) i l (eq-eqb (byte_in firsts i) t (h.found (omega arith)))
        (λ j m. ne_eqb (byte_in firsts j) t (h.below j m)))

    -- the records before a place have other tags, and that is all of them
    pub found-nowhere : (i : ℕ) → n ≤ i → ((j : ℕ) → j < i → byte_in firsts j ≢ t) → Found None
    found-nowhere i l h =
        sym (first_of-below-none (first_is t) n (pair_in firsts seconds) (λ j m. ne_eqb (byte_in firsts j) t (h j (omega arith))))
