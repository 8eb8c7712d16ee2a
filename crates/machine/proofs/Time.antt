-- Between two moments: the order list grows at its end, an answer stays, and what was collected before another was issued stands first.
use Prim.Native.Nat.{ℕ, ◌≤◌}
use mathlib.Core.Path.{◌≡◌, refl, sym, ◌∙◌, ap, subst}
use mathlib.Core.Logic.{◌≢◌}
use mathlib.Core.List.{List, [], ◌∷◌, ◌++◌, append_assoc, append-nil, Memᴰ}
use mathlib.Core.Option.{none, some}
use native.Mathlib.Decide.{ℕ_discrete}
use native.Mathlib.Omega.{arith}
use Rattle.lists.specs.Search.{All, InTurn, Begins, Before}
use Rattle.lists.specs.Count.{count}
use Rattle.lists.proofs.Tests.{by_cases}
use Rattle.lists.proofs.Every.{all_map}
use Rattle.lists.proofs.Tables.{update_other}
use Rattle.lists.proofs.Counts.{count-append, itself, member-count, before-append}
use Rattle.event.specs.Event.{Event}
use Rattle.machine.specs.Setup.{Setup, Reply}
use Rattle.machine.specs.State.{State, stands_for}
use Rattle.machine.specs.Steps.{collect_oldest}
use Rattle.machine.specs.Run.{after_each}
use Rattle.machine.specs.Order.{Unissued, InTime}
use Rattle.machine.specs.Inner.Lawful.{Lawful}
use Rattle.machine.proofs.Moves.{Move, appending, merging, serving, answering, lowering, collecting}
use Rattle.machine.proofs.Progress.{Live}
use Rattle.machine.proofs.StepsMove.{step_keeps}
use Rattle.machine.proofs.Moments.{Fits, after-each, every_two}
use Rattle.machine.proofs.Drain.{move-keeps-live, step-keeps-live}
use Rattle.machine.proofs.Ordered.{unissued-absent, collected-member, reply-unanswered}

module _ (S : Setup) where
  open S use {Word, k}

  -- ---- what only grows
  record Later (a b : State S) : Type 0 where
    grows : Begins a.order b.order
    stays : (t : ℕ) (v : Word) → a.answers t ≡ some v → b.answers t ≡ some v

  later_same : (a b : State S) → a.order ≡ b.order → a.answers ≡ b.answers → Later a b
  later_same a b e f = record { grows = ([], append-nil a.order ∙ e); stays = λ t v h. rw f at h }

  later-onward : {a b c : State S} → Later a b → Later b c → Later a c
  later-onward {a} f g = record {
    grows = (f.grows.0 ++ g.grows.0, sym (append_assoc a.order f.grows.0 g.grows.0) ∙ rw f.grows.1 g.grows.1);
    stays = λ t v h. g.stays t v (f.stays t v h);
  }

  module _ (words : ℕ → Word) where
    collect-later : (a : State S) (n : ℕ) → Live S words a n → (e : ℕ) (t : Reply S) (rest : List (Reply S)) → a.replies 0 e ≡ t ∷ rest
        → Later a (collect_oldest S a e (t ∷ rest))
    unfolding collect_oldest
    collect-later a n L e t rest is = record {
      grows = ([], append-nil a.order);
      stays = λ u v h. by_cases (ℕ_discrete u t.tag)
          (λ (z : u ≡ t.tag).
          let y = reply-unanswered S words L.places a L.invariant e t rest is in
          let x : none ≡ some v = sym y ∙ ap a.answers (sym z) ∙ h in
          let w : ◌≡◌ {A = ℕ} 0 1 = cc in
          absurd (omega arith))
          (λ (z : u ≢ t.tag). update_other a.answers t.tag (some t.value) z ∙ h);
    }

    move-later : {a b : State S} (n : ℕ) → Live S words a n → Move S a b → Later a b
    move-later {a} {b} n L (appending s p m rest lt is) = later_same a b refl refl
    move-later {a} {b} n L (merging s p m rest older f younger o lt is parts same last merges) = later_same a b refl refl
    move-later {a} n L (serving p m rest is) = record { grows = (stands_for S a.waits k m.tag, refl); stays = λ t v h. h }
    move-later {a} {b} n L (answering s p t rest older r younger is parts of) = later_same a b refl refl
    move-later {a} {b} n L (lowering s p t rest is free) = later_same a b refl refl
    move-later {a} n L (collecting e t rest is) = collect-later a n L e t rest is

    -- ---- real time
    later-in-time : Lawful S → (a b : State S) (n : ℕ) → Live S words a n → Later a b → InTime S a b
    later-in-time law a b n L f = record { grows = f.grows; stays = f.stays; real_time = real }
      where
        real : (t u : ℕ) (v : Word) → a.answers t ≡ some v → Unissued S a u → Memᴰ u b.order → Before t u b.order
        real t u v h un mem =
            let grown = f.grows.0 in
            let w : 1 ≤ count itself u b.order = member-count mem in
            let unlisted = unissued-absent S words L.places a L.invariant law u un in
            let in-new : 1 ≤ count itself u grown = omega (arith, w, unlisted, ap (count itself u) f.grows.1, count-append itself u a.order grown) in
            let in-old = member-count (collected-member S words L.places a L.invariant t v h) in
            subst (Before t u) f.grows.1 (before-append t u a.order grown in-old in-new)

    -- ---- from a moment to each later one
    module _ (law : Lawful S) (n : ℕ) where
      -- what holds of the moments after a: there is still less left, and what a had is there
      abbrev Since : State S → State S → Type 0
      Since a st = Live S words st n × Later a st

      move-since : (a b c : State S) → Move S b c → Since a b → Since a c
      move-since a b c m (L, g) = (move-keeps-live S law words n b c m L, later-onward g (move-later n L m))

      after-in-time : (a : State S) → Live S words a n → (es : List Event) → All (Fits S) es → All (InTime S a) (after_each S es a)
      after-in-time a L es fs =
          all_map (λ x h. later-in-time law a x n L h.1)
          (after-each S (Since a) (step_keeps S law (Since a) (move-since a)) fs a (L, later_same a a refl refl))

      pub every-two-in-time : {es : List Event} → All (Fits S) es → (a : State S) → Live S words a n → InTurn (InTime S) (a ∷ after_each S es a)
      every-two-in-time = every_two S (λ st. Live S words st n) (step-keeps-live S law words n) (InTime S) after-in-time
