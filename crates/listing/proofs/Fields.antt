-- Fields with one space between them are the fields of their line.
use Prim.Native.Nat.{ℕ, zero, suc, ◌≤◌, ◌<◌}
use mathlib.Core.Path.{◌≡◌, refl, ap, ◌∙◌}
use mathlib.Core.Logic.{◌≢◌}
use mathlib.Core.Bool.{false}
use mathlib.Core.List.{List, [], ◌∷◌, ◌++◌}
use native.Mathlib.Omega.{arith}
use lib.ListN.{length, length-append}
use lib.Seq.{take-append_seam, drop-append_seam}
use borrow.Author.Tests.{ne_eqb}
use Rattle.lists.specs.Search.{some, All, nil, cons}
use Rattle.lines.specs.Said.{leading, is_space, in_field, past_spaces, fields_up_to, fields}
use Rattle.listing.specs.Inner.Again.{following, Plain}

no-space : (c : ℕ) → 32 < c → is_space c ≡ false
unfolding is_space some
no-space c h = simp (ne_eqb c 32 (λ e. omega arith), ne_eqb c 9 (λ e. omega arith), ne_eqb c 13 (λ e. omega arith))

-- a field ends where the next one's space stands, or the line ends
leading-none : (fs : List (List ℕ)) → leading in_field (following fs) ≡ 0
unfolding leading following is_space some
leading-none [] = refl
leading-none (f ∷ fs) = refl

leading-field : (f rest : List ℕ) → All (λ c. 32 < c) f → leading in_field rest ≡ 0 → leading in_field (f ++ rest) ≡ length f
unfolding leading
leading-field [] rest nil e = e
leading-field (c ∷ f) rest (cons h hs) e = rw (no-space c h) (ap suc (leading-field f rest hs e))

-- no space stands in front of a field
spaces-none : (f rest : List ℕ) → Plain f → leading is_space (f ++ rest) ≡ 0
unfolding leading
spaces-none [] rest p = absurd (omega (arith, p.some))
spaces-none (c ∷ f) rest p = go p.above
  where
    go : All (λ d. 32 < d) (c ∷ f) → leading is_space ((c ∷ f) ++ rest) ≡ 0
    go (cons h hs) = rw (no-space c h)

-- one stands in front of those that follow
spaces-one : (f : List ℕ) (fs : List (List ℕ)) → Plain f → past_spaces (following (f ∷ fs)) ≡ f ++ following fs
unfolding leading following is_space some
spaces-one f fs p = rw (spaces-none f (following fs) p)

-- the first field, and those behind it
fields-first : (most : ℕ) (s f : List ℕ) (fs : List (List ℕ)) → Plain f → past_spaces s ≡ f ++ following fs →
    fields_up_to (suc most) s ≡ f ∷ fields_up_to most (following fs)
unfolding fields_up_to
fields-first most s f fs p e =
    let long : length (f ++ following fs) ≢ 0 = λ z. omega (arith, length-append f (following fs), p.some) in
    rw (e, ne_eqb (length (f ++ following fs)) 0 long, leading-field f (following fs) p.above (leading-none fs))
    (rw (take-append_seam f (following fs), drop-append_seam f (following fs)))

fields-following : (most : ℕ) (fs : List (List ℕ)) → All Plain fs → length (following fs) ≤ most → fields_up_to most (following fs) ≡ fs
unfolding leading following fields_up_to
fields-following zero [] nil h = refl
fields-following (suc most) [] nil h = refl
fields-following zero (f ∷ fs) ps h = absurd (omega arith)
fields-following (suc most) (f ∷ fs) (cons p ps) h =
    fields-first most (following (f ∷ fs)) f fs p (spaces-one f fs p)
    ∙ ap (λ (l : List (List ℕ)). f ∷ l) (fields-following most fs ps (omega (arith, length-append f (following fs))))

pub fields-are : (f : List ℕ) (fs : List (List ℕ)) → Plain f → All Plain fs → fields (f ++ following fs) ≡ f ∷ fs
unfolding fields
fields-are [] fs p ps = absurd (omega (arith, p.some))
fields-are (c ∷ f) fs p ps =
    fields-first (length (f ++ following fs)) ((c ∷ f) ++ following fs) (c ∷ f) fs p (rw (spaces-none (c ∷ f) (following fs) p))
    ∙ ap (λ (l : List (List ℕ)). (c ∷ f) ∷ l) (fields-following (length (f ++ following fs)) fs ps (omega (arith, length-append f (following fs))))
