-- In a view that stands for a state that a run reaches, past the N positions of a level nothing stands.
use Prim.Native.Nat.{ℕ, ◌<◌, ◌^◌}
use mathlib.Core.Path.{◌≡◌, refl}
use mathlib.Core.Bool.{Bool, true, false}
use mathlib.Core.List.{List, [], ◌∷◌}
use native.Mathlib.Omega.{arith}
use lib.ListN.{length}
use Rattle.lists.specs.Choice.{choose}
use Rattle.view.specs.Inner.View.{View}
use Rattle.machine.specs.Setup.{place}
use Rattle.machine.specs.Order.{requested, replying}
use Rattle.shown.specs.Inner.Network.{Network, setup}
use Rattle.shown.specs.Inner.Reached.{Stands}
use Rattle.shown.proofs.Apart.{oldest-requested, oldest-replying}
use Rattle.shown.proofs.Reaching.{stands-lawful, stands-apart}
use Rattle.shown.proofs.Forwards.{oldest-first}

module _ {x : Network} {v : View} {words : ℕ → ℕ} (S : Stands x v words) (s p : ℕ) where
  -- the oldest stands on its path, and a path is below N
  oldest-below : (tags : List ℕ) → ((t : ℕ) (rest : List ℕ) → tags ≡ t ∷ rest → p ≡ place (setup x) t s) → 0 < length tags → p < 2 ^ x.k
  oldest-below [] on h = absurd (omega arith)
  oldest-below (t ∷ rest) on h = omega (arith, on t rest refl, (stands-lawful S).place-below t s)

  -- a position with something in its queue, of requests where the test holds, else of replies
  pub busy-below : (test : Bool) → 0 < length (choose test v.requests v.replies s p) → p < 2 ^ x.k
  busy-below true = oldest-below (v.requests s p) (λ t rest is.
      ((stands-apart S).path t (requested s p) (oldest-requested x v s p (oldest-first x v s p t rest is).1)).1)
  busy-below false = oldest-below (v.replies s p) (λ t rest is. ((stands-apart S).path t (replying s p) (oldest-replying x v s p is)).1)
