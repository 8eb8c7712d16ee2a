-- Views that stand for a state that a run reaches: the start's, and what events make of one.
use Prim.Native.Nat.{ℕ, ◌+◌, ◌*◌, ◌≤◌}
use mathlib.Core.Path.{◌≡◌, sym, ap, subst, ◌∙◌}
use mathlib.Core.List.{List, [], ◌++◌}
use native.Mathlib.Nat.{le_trans, mul-le-mul_left}
use native.Mathlib.Omega.{arith}
use Rattle.lists.specs.Search.{nil}
use Rattle.lists.proofs.Every.{all_append}
use Rattle.event.specs.Event.{Event}
use Rattle.view.specs.Inner.View.{View}
use Rattle.machine.specs.State.{State, start}
use Rattle.machine.specs.Run.{run_events}
use Rattle.machine.specs.Inner.Lawful.{Lawful}
use Rattle.machine.specs.Inner.Sound.{Sound}
use Rattle.machine.proofs.Omega.{omega-lawful}
use Rattle.machine.proofs.Moments.{events-append}
use Rattle.machine.proofs.Sound.{sound}
use Rattle.shown.specs.Inner.Network.{Network, setup, Ranges, Fits}
use Rattle.shown.specs.Inner.Shown.{shown}
use Rattle.shown.specs.Inner.Reached.{Reached, Stands, Moved, AtStart}
use Rattle.shown.proofs.Apart.{Apart, tags-apart}
use Rattle.shown.proofs.Levels.{AllFit}
use Rattle.shown.proofs.Start.{start-shows}

module _ {x : Network} where
  pub ranges-lawful : Ranges x → Lawful (setup x)
  ranges-lawful r = omega-lawful x.k x.Q x.W x.R x.engine_of x.address_of x.asked_of r.k-least r.Q-least r.engines

  -- "R times (2k + 2)"
  pub moves-few : Ranges x → x.R * (2 * x.k + 2) ≤ 2560
  moves-few r =
      le_trans (mul-le-mul_left x.R (let h : 2 * x.k + 2 ≤ 10 = omega (arith, r.k-most) in h)) (let h : x.R * 10 ≤ 2560 = omega (arith, r.R-most) in h)

  pub reached-events : {st st' : State (setup x)} (es : List Event) → AllFit x.k es → st' ≡ run_events (setup x) es st → Reached x st → Reached x st'
  reached-events es f e r = record {
    from = r.from;
    events = r.events ++ es;
    named = all_append r.named f;
    reached = e ∙ ap (run_events (setup x) es) r.reached ∙ sym (events-append (setup x) r.events es (start (setup x) r.from));
  }

  pub start-stands : {v : View} → AtStart x v → (words : ℕ → ℕ) → Stands x v words
  unfolding run_events
  start-stands {v} A words = record { fits = A.fits; reached = record { from = words; events = []; named = nil; reached = start-shows x v A words } }

  module _ {v : View} {words : ℕ → ℕ} where
    pub moved-stands : {es : List Event} {v' : View} {words' : ℕ → ℕ} → Stands x v words → AllFit x.k es → Moved x es v words v' words' → Stands x v' words'
    moved-stands {es} S f m = record { fits = subst (Fits x) (sym m.fixed) S.fits; reached = reached-events es f m.shows S.reached }

    pub stands-lawful : Stands x v words → Lawful (setup x)
    stands-lawful S = ranges-lawful S.fits.ranges

    pub stands-sound : Stands x v words → Sound (setup x) (shown x v words)
    stands-sound S = rw S.reached.reached (sound (setup x) (stands-lawful S) S.reached.from S.reached.events S.reached.named)

    -- each tag stands in one place
    pub stands-apart : Stands x v words → Apart x v
    stands-apart S = tags-apart x v words (stands-sound S).one_place
