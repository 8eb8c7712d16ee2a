-- Whether every request is answered: whether the marks of the answered are the marks of all.
use Prim.Native.Nat.{ℕ, zero, suc, ◌≤◌, ◌<◌}
use mathlib.Core.Path.{◌≡◌, refl, sym, ◌∙◌}
use mathlib.Core.Bool.{Bool, true, false}
use mathlib.Core.Option.{some, none}
use native.Mathlib.Decide.{dec_lt}
use native.Mathlib.Omega.{arith}
use lib.Dec.{ltb}
use borrow.Author.Tests.{lt-ltb, le-ltb}
use Rattle.lists.specs.Choice.{choose}
use Rattle.lists.proofs.Tests.{by_cases, test-fails}
use Rattle.view.specs.Inner.View.{View}
use Rattle.machine.specs.Run.{is_answered, answered_below, all_answered}
use Rattle.machine.specs.Order.{OnePlace}
use Rattle.machine.proofs.Drain.{below-answered}
use Rattle.shown.specs.Inner.Network.{Network, setup, Fits}
use Rattle.shown.specs.Inner.Shown.{shown}
use Rattle.shown.proofs.Apart.{tags-apart, answered-below}

module _ (x : Network) (v : View) (words : ℕ → ℕ) where
  shown-answered : (t : ℕ) → is_answered (setup x) ((shown x v words).answers t) ≡ v.answered t
  unfolding shown
  shown-answered t = go (v.answered t)
    where
      go : (b : Bool) → is_answered (setup x) (choose b (some (v.carried t).first) none) ≡ b
      go true = refl
      go false = refl

  answered-all : (n : ℕ) → ((t : ℕ) → t < n → v.answered t ≡ true) → answered_below (setup x) n (shown x v words) ≡ true
  unfolding answered_below
  answered-all zero h = refl
  answered-all (suc n) h = rw (shown-answered n, h n (omega arith), answered-all n (λ t l. h t (omega arith)))

  module _ (F : Fits x v.fixed) where
    pub all-answered : ((t : ℕ) → v.answered t ≡ v.fixed.every t) → all_answered (setup x) (shown x v words) ≡ true
    all-answered h = answered-all x.R (λ t l. h t ∙ F.every-is t ∙ lt-ltb t x.R l)

    pub not-all-answered : OnePlace (setup x) (shown x v words) → ¬ ((t : ℕ) → v.answered t ≡ v.fixed.every t) →
        all_answered (setup x) (shown x v words) ≡ false
    not-all-answered P n = test-fails (all_answered (setup x) (shown x v words)) (λ e. n (λ t. marks e t ∙ sym (F.every-is t)))
      where
        marks : all_answered (setup x) (shown x v words) ≡ true → (t : ℕ) → v.answered t ≡ ltb t x.R
        marks e t = by_cases (dec_lt t x.R)
            (λ (l : t < x.R). sym (shown-answered t) ∙ below-answered (setup x) (shown x v words) x.R e t l ∙ sym (lt-ltb t x.R l))
            (λ (m : ¬ (t < x.R)).
            test-fails (v.answered t) (λ a. m (answered-below x v (tags-apart x v words P) t a))
            ∙ sym (le-ltb t x.R (let z : x.R ≤ t = omega arith in z)))
