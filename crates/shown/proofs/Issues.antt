-- Issues on the view are the machine's: an issue is a forward from level 0.
use Prim.Native.Nat.{ℕ, suc}
use mathlib.Core.Path.{◌≡◌, sym, ◌∙◌}
use mathlib.Core.Logic.{◌≢◌}
use mathlib.Core.List.{List, [], ◌∷◌}
use lib.Dec.{ltb}
use Rattle.lists.specs.Choice.{choose}
use Rattle.wiring.specs.Inner.Path.{position_on}
use Rattle.view.specs.Inner.View.{View, with_requests}
use Rattle.machine.specs.Order.{requested}
use Rattle.machine.specs.Steps.{issue_step}
use Rattle.shown.specs.Inner.Network.{Network, setup, of_engine}
use Rattle.shown.specs.Inner.Shown.{unissued, tags_at, shown}
use Rattle.shown.specs.Inner.Landing.{Came, came_refused, Landed}
use Rattle.shown.specs.Inner.Reached.{Stands}
use Rattle.shown.proofs.Apart.{oldest-requested}
use Rattle.shown.proofs.Engines.{next-unissued}
use Rattle.shown.proofs.Reaching.{stands-lawful, stands-apart}
use Rattle.shown.proofs.Forwards.{forward-below, landed-shows}

module _ {x : Network} {v : View} {words : ℕ → ℕ} (S : Stands x v words) (e t : ℕ) (rest : List ℕ) (is : v.requests 0 e ≡ t ∷ rest) where
  all-tags : tags_at x v 0 e ≡ t ∷ of_engine x e (suc t)
  all-tags = rw is

  pub issue-engine : x.engine_of t ≡ e
  issue-engine = sym (((stands-apart S).path t (requested 0 e) (oldest-requested x v 0 e all-tags)).1 ∙ (stands-lawful S).place-engine t)

  -- the engine's next request, or none, stands for all behind t
  abbrev next : List ℕ
  next = choose (ltb (v.fixed.after t) v.fixed.count) (v.fixed.after t ∷ []) []

  next-left : unissued x e next ≡ of_engine x e (suc t)
  next-left = rw (S.fits.after_is t (forward-below S 0 e t _ all-tags), S.fits.count-is, issue-engine) (next-unissued x e (suc t))

  pub issue-shows : (to : ℕ) → to ≡ position_on (v.fixed.path t) 1 → {v' : View} {came : Came} → Landed v t 1 to v' came → came ≢ came_refused
      → shown x (with_requests v' 0 e next) words ≡ issue_step (setup x) e (shown x v words)
  issue-shows to at L c = landed-shows S 0 e t (of_engine x e (suc t)) all-tags S.fits.ranges.k-least to at L _ next-left c
