-- An engine's requests in trace order: the next one from a tag on, and those behind it.
use Prim.Native.Nat.{ℕ, zero, suc, ◌+◌, ◌-◌, ◌≤◌, ◌<◌}
use mathlib.Core.Path.{◌≡◌, refl, sym, ◌∙◌}
use mathlib.Core.Bool.{Bool, true, false}
use mathlib.Core.List.{[], ◌∷◌}
use native.Mathlib.Omega.{arith}
use lib.Dec.{eqb, ltb}
use borrow.Author.Tests.{eq-eqb, eqb-true}
use Rattle.lists.specs.Choice.{choose}
use Rattle.lists.specs.Search.{All, nil, cons, only}
use Rattle.lists.proofs.Tests.{test-cases, ltb-cases}
use Rattle.lists.proofs.Every.{all_map}
use Rattle.shown.specs.Inner.Network.{Network, tags_from, of_engine, first_from, next_of}
use Rattle.shown.specs.Inner.Shown.{unissued}

pub tags-within : (n t : ℕ) → All (λ u. (t ≤ u) × (u < t + n)) (tags_from n t)
unfolding tags_from
tags-within zero t = nil
tags-within (suc n) t = cons {x = t} (omega arith, omega arith) (all_map (λ u h. (omega arith, omega arith)) (tags-within n (suc t)))

module _ (x : Network) (e : ℕ) where
  -- ---- of n tags from t on
  abbrev first : ℕ → ℕ → ℕ
  first n t = first_from x.engine_of e n t

  first-from : (n t : ℕ) → t ≤ first n t
  unfolding first_from
  first-from zero t = omega arith
  first-from (suc n) t =
      test-cases (λ b. t ≤ choose b t (first n (suc t))) (eqb (x.engine_of t) e) (λ _. omega arith) (λ _. omega (arith, first-from n (suc t)))

  first-within : (n t : ℕ) → first n t ≤ t + n
  unfolding first_from
  first-within zero t = omega arith
  first-within (suc n) t =
      test-cases (λ b. choose b t (first n (suc t)) ≤ t + suc n) (eqb (x.engine_of t) e) (λ _. omega arith) (λ _. omega (arith, first-within n (suc t)))

  first-own : (n t : ℕ) → first n t < t + n → x.engine_of (first n t) ≡ e
  unfolding first_from
  first-own zero t h = absurd (omega arith)
  first-own (suc n) t h = go (eqb (x.engine_of t) e) refl h (first-own n (suc t))
    where
      go : (b : Bool) → eqb (x.engine_of t) e ≡ b → choose b t (first n (suc t)) < t + suc n
          → (first n (suc t) < suc t + n → x.engine_of (first n (suc t)) ≡ e) → x.engine_of (choose b t (first n (suc t))) ≡ e
      go true q h f = eqb-true _ _ q
      go false q h f = f (omega arith)

  -- none of e's is passed over
  first-same : (n t : ℕ) → n ≡ x.R - t → of_engine x e (first_from x.engine_of e n t) ≡ of_engine x e t
  unfolding first_from only tags_from
  first-same zero t h = refl
  first-same (suc n) t h = go (eqb (x.engine_of t) e) refl (first-same n (suc t) (omega arith))
    where
      go : (b : Bool) → eqb (x.engine_of t) e ≡ b → of_engine x e (first_from x.engine_of e n (suc t)) ≡ of_engine x e (suc t)
          → of_engine x e (choose b t (first_from x.engine_of e n (suc t))) ≡ of_engine x e t
      go true q r = refl
      go false q r = r ∙ sym (let z : x.R - t ≡ suc (x.R - suc t) = omega arith in rw (z, q))

  own-head : (t : ℕ) → t < x.R → x.engine_of t ≡ e → of_engine x e t ≡ t ∷ of_engine x e (suc t)
  unfolding only tags_from
  own-head t h q = let z : x.R - t ≡ suc (x.R - suc t) = omega arith in rw (z, eq-eqb _ _ q)

  own-end : (t : ℕ) → x.R ≤ t → of_engine x e t ≡ []
  unfolding only tags_from
  own-end t h = let z : x.R - t ≡ 0 = omega arith in rw z

  -- ---- the next request from t on
  pub next-within : (t : ℕ) → t ≤ x.R → next_of x e t ≤ x.R
  next-within t h = omega (arith, first-within (x.R - t) t)

  module _ (t : ℕ) (below : next_of x e t < x.R) where
    pub next-own : x.engine_of (next_of x e t) ≡ e
    next-own = first-own (x.R - t) t (omega (arith, first-from (x.R - t) t))

    pub next-some : of_engine x e t ≡ next_of x e t ∷ of_engine x e (suc (next_of x e t))
    next-some = sym (first-same (x.R - t) t refl) ∙ own-head (next_of x e t) below next-own

  pub next-none : (t : ℕ) → x.R ≤ next_of x e t → of_engine x e t ≡ []
  next-none t h = sym (first-same (x.R - t) t refl) ∙ own-end (next_of x e t) h

  -- so a queue that has the next request alone stands for all from t on
  pub next-unissued : (t : ℕ) → unissued x e (choose (ltb (next_of x e t) x.R) (next_of x e t ∷ []) []) ≡ of_engine x e t
  next-unissued t =
      ltb-cases (λ b. unissued x e (choose b (next_of x e t ∷ []) []) ≡ of_engine x e t) (next_of x e t) x.R
      (λ h. sym (next-some t h)) (λ h. sym (next-none t h))
