-- A step whose queue is empty moves nothing, and a row passes over positions that rest.
use Prim.Native.Nat.{ℕ, zero, suc, ◌+◌, ◌-◌, ◌≤◌, ◌<◌}
use mathlib.Core.Path.{◌≡◌, refl, ap}
use mathlib.Core.Bool.{true}
use mathlib.Core.List.{[], map}
use native.Mathlib.Omega.{arith}
use lib.Dec.{eqb}
use lib.ListN.{length}
use borrow.Author.Tests.{eqb-true}
use Rattle.lists.proofs.Lists.{length_none}
use Rattle.event.specs.Event.{level_fits}
use Rattle.event.proofs.Steps.{issue-level, module-level, return-level, collect-level, step-named}
use Rattle.view.specs.Inner.View.{View}
use Rattle.machine.specs.Setup.{Setup}
use Rattle.machine.specs.State.{State}
use Rattle.machine.specs.Steps.{forward_oldest, forward_step, serve_oldest, module_step, return_oldest, return_step, collect_oldest, collect_step}
use Rattle.machine.specs.Run.{row}
use Rattle.shown.specs.Inner.Network.{Network, setup}
use Rattle.shown.specs.Inner.Shown.{message_of, reply_of, tags_at, shown}
use Rattle.shown.specs.Inner.Reached.{single, rests_at, Moved}
use Rattle.shown.proofs.Events.{issue-moves, forward-moves, module-moves, return-moves, collect-moves}
use Rattle.shown.proofs.Moving.{row-onward}

-- ---- the machine's steps on an empty queue
module _ (S : Setup) (st : State S) where
  pub forward-none : (s p : ℕ) → st.requests s p ≡ [] → st ≡ forward_step S s p st
  unfolding forward_step forward_oldest
  forward-none s p e = rw e

  module-none : (p : ℕ) → st.requests S.k p ≡ [] → st ≡ module_step S p st
  unfolding module_step serve_oldest
  module-none p e = rw e

  return-none : (s p : ℕ) → st.replies (suc s) p ≡ [] → st ≡ return_step S s p st
  unfolding return_step return_oldest
  return-none s p e = rw e

  collect-none : (p : ℕ) → st.replies 0 p ≡ [] → st ≡ collect_step S p st
  unfolding collect_step collect_oldest
  collect-none p e = rw e

-- ---- an empty queue is shown empty
module _ (x : Network) (v : View) (words : ℕ → ℕ) where
  tags-none : (s p : ℕ) → v.requests s p ≡ [] → tags_at x v s p ≡ []
  tags-none zero p e = rw e
  tags-none (suc s) p e = e

  pub requests-shown : (s p : ℕ) → v.requests s p ≡ [] → (shown x v words).requests s p ≡ []
  unfolding shown
  requests-shown s p e = ap (map (message_of x v)) (tags-none s p e)

  pub replies-shown : (s p : ℕ) → v.replies s p ≡ [] → (shown x v words).replies s p ≡ []
  unfolding shown
  replies-shown s p e = ap (map (reply_of x v)) e

  -- and so is one that is tested empty
  shown-requests : (s p : ℕ) → eqb (length (v.requests s p)) 0 ≡ true → (shown x v words).requests s p ≡ []
  shown-requests s p e = requests-shown s p (length_none (v.requests s p) (eqb-true _ _ e))

  shown-replies : (s p : ℕ) → eqb (length (v.replies s p)) 0 ≡ true → (shown x v words).replies s p ≡ []
  shown-replies s p e = replies-shown s p (length_none (v.replies s p) (eqb-true _ _ e))

  pub rests-moves : (what level position : ℕ) → level_fits x.k what level ≡ true → rests_at v what level position ≡ true →
      Moved x (single what level position) v words v words
  rests-moves what level position fits h = step-named x.k what level fits
      (λ e. issue-moves what level position refl refl e (forward-none (setup x) (shown x v words) 0 position
      (shown-requests 0 position (rw (e, issue-level x.k what level e fits) at h))))
      (λ e. forward-moves what level position refl refl e (forward-none (setup x) (shown x v words) level position
      (shown-requests level position (rw e at h))))
      (λ e. module-moves what level position refl refl e (module-none (setup x) (shown x v words) position
      (shown-requests x.k position (rw (e, module-level x.k what level e fits) at h))))
      (λ e. let z : suc (level - 1) ≡ level = omega (arith, (return-level x.k what level e fits).0) in
      return-moves what level position refl refl e (return-none (setup x) (shown x v words) (level - 1) position
      (rw z (shown-replies level position (rw e at h)))))
      (λ e. collect-moves what level position refl refl e (collect-none (setup x) (shown x v words) position
      (shown-replies 0 position (rw (e, collect-level x.k what level e fits) at h))))

-- ---- positions that rest are passed over
module _ {x : Network} {v v₁ : View} {words words₁ : ℕ → ℕ} (what level p : ℕ) (fits : level_fits x.k what level ≡ true)
    (moved : Moved x (row what level p) v words v₁ words₁) where
  row-past : (d : ℕ) → ((i : ℕ) → p ≤ i → i < p + d → rests_at v₁ what level i ≡ true) → Moved x (row what level (p + d)) v words v₁ words₁
  row-past zero h = let e : p + 0 ≡ p = omega arith in rw e moved
  row-past (suc d) h =
      let e : p + suc d ≡ p + d + 1 = omega arith in
      let here = rests-moves x v₁ words₁ what level (p + d) fits (h (p + d) (omega arith) (omega arith)) in
      rw e (row-onward what level (p + d) (row-past d (λ i l g. h i l (omega arith))) here)

  pub row-skip : (q : ℕ) → p ≤ q → ((i : ℕ) → p ≤ i → i < q → rests_at v₁ what level i ≡ true) → Moved x (row what level q) v words v₁ words₁
  row-skip q l h = let e : p + (q - p) ≡ q = omega arith in rw e at (row-past (q - p) (rw e h))
