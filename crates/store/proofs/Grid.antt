-- Tables of 5 levels and 16 positions: read, kept, and changed at one place.
use Prim.Native.Nat.{ℕ, ◌<◌}
use mathlib.Core.Path.{◌≡◌, refl, ◌∙◌, fun_ext}
use mathlib.Core.Bool.{Bool, true, false}
use mathlib.Core.List.{List, []}
use borrow.Author.Tests.{lt-ltb}
use lib.Dec.{ltb}
use Rattle.lists.specs.Choice.{choose, both}
use Rattle.lists.specs.Table.{update2}
use Rattle.lists.proofs.Tests.{ltb-cases}
use Rattle.lists.proofs.Tables.{update2-unique}
use Rattle.store.specs.Inner.Memory.{on_grid}

-- what holds on the grid, and of nothing, holds everywhere
grid-cases : (P : Bool → Type 0) (s p : ℕ) → (s < 5 → p < 16 → P true) → P false → P (both (ltb s 5) (ltb p 16))
grid-cases P s p f g = ltb-cases (λ b. P (both b (ltb p 16))) s 5 (λ h. ltb-cases P p 16 (λ l. f h l) (λ _. g)) (λ _. g)

module _ {A : Type 0} where
  pub grid-here : (f : ℕ → ℕ → List A) {s p : ℕ} → s < 5 → p < 16 → on_grid f s p ≡ f s p
  unfolding on_grid
  grid-here f {s} {p} a b = rw (lt-ltb s 5 a, lt-ltb p 16 b)

  pub grid-empty : (f : ℕ → ℕ → List A) → ((s p : ℕ) → f s p ≡ []) → on_grid f ≡ (λ s p. [])
  unfolding on_grid
  grid-empty f h = fun_ext (λ s. fun_ext (λ p. grid-cases (λ b. choose b (f s p) [] ≡ []) s p (λ a b. h s p) refl))

  module _ (f f' : ℕ → ℕ → List A) where
    at : (s p : ℕ) → (s < 5 → p < 16 → f' s p ≡ f s p) → on_grid f' s p ≡ on_grid f s p
    unfolding on_grid
    at s p h = grid-cases (λ b. choose b (f' s p) [] ≡ choose b (f s p) []) s p h refl

    pub grid-same : ((s p : ℕ) → s < 5 → p < 16 → f' s p ≡ f s p) → on_grid f' ≡ on_grid f
    grid-same h = fun_ext (λ s. fun_ext (λ p. at s p (h s p)))

    pub grid-changed : (level position : ℕ) (l : List A) → level < 5 → position < 16 → f' level position ≡ l →
        ((s p : ℕ) → s < 5 → p < 16 → ¬ ((s ≡ level) × (p ≡ position)) → f' s p ≡ f s p) → on_grid f' ≡ update2 (on_grid f) level position l
    grid-changed level position l a b e h =
        update2-unique (on_grid f) (on_grid f') level position l (grid-here f' a b ∙ e) (λ s p d. at s p (λ a' b'. h s p a' b' d))
