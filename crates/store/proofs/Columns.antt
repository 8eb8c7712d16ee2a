-- Tables of 256 tags or places, with the same beyond them: read, kept, and changed at one place.
use Prim.Native.Nat.{ℕ, ◌<◌}
use mathlib.Core.Path.{◌≡◌, refl, ◌∙◌, fun_ext}
use mathlib.Core.Logic.{◌≢◌}
use borrow.Author.Tests.{lt-ltb}
use lib.Dec.{ltb}
use Rattle.lists.specs.Choice.{choose}
use Rattle.lists.specs.Table.{update}
use Rattle.lists.proofs.Tests.{ltb-cases}
use Rattle.lists.proofs.Tables.{update-unique}

module _ {A : Type 0} where
  module _ (d : A) where
    abbrev on_tags : (ℕ → A) → ℕ → A
    on_tags f t = choose (ltb t 256) (f t) d

    pub tags-here : (f : ℕ → A) {t : ℕ} → t < 256 → on_tags f t ≡ f t
    tags-here f {t} l = rw (lt-ltb t 256 l)

    pub tags-none : (f : ℕ → A) → ((t : ℕ) → f t ≡ d) → on_tags f ≡ (λ t. d)
    tags-none f h = fun_ext (λ t. ltb-cases (λ b. choose b (f t) d ≡ d) t 256 (λ _. h t) (λ _. refl))

    module _ (f f' : ℕ → A) where
      at : (t : ℕ) → (t < 256 → f' t ≡ f t) → on_tags f' t ≡ on_tags f t
      at t h = ltb-cases (λ b. choose b (f' t) d ≡ choose b (f t) d) t 256 h (λ _. refl)

      pub tags-same : ((t : ℕ) → t < 256 → f' t ≡ f t) → on_tags f' ≡ on_tags f
      tags-same h = fun_ext (λ t. at t (h t))

      pub tags-changed : (t : ℕ) (x : A) → t < 256 → f' t ≡ x → ((s : ℕ) → s < 256 → s ≢ t → f' s ≡ f s) → on_tags f' ≡ update (on_tags f) t x
      tags-changed t x l e h = update-unique (on_tags f) (on_tags f') t x (tags-here f' l ∙ e) (λ s n. at s (λ a. h s a n))
