-- The machine's forward, by what came of the arrival; a full queue with a full wait buffer refuses.
use Prim.Native.Nat.{ℕ, suc, ◌≤◌}
use mathlib.Core.Path.{◌≡◌, refl}
use mathlib.Core.Logic.{◌≢◌}
use mathlib.Core.List.{List, ◌∷◌}
use Rattle.std.proofs.Common.{Option, None, Some}
use lib.ListN.{length}
use borrow.Author.Tests.{le-ltb}
use Rattle.lists.specs.Search.{Found, absent, found}
use Rattle.machine.specs.Setup.{Setup, Message, place}
use Rattle.machine.specs.State.{State}
use Rattle.machine.specs.Arrival.{Node, refused, append, combine, meet, youngest, arrive}
use Rattle.machine.specs.Steps.{sent, landed, node_at, forward_oldest, forward_step}
use Rattle.shown.specs.Inner.Network.{Network, setup}
use Rattle.shown.specs.Inner.Landing.{Came, came_merged, came_appended, came_refused, arrival_of, merges_after}

-- "Otherwise append if the queue has room. Otherwise the step changes nothing.": with no room at all an arrival is refused
pub arrive-full : (S : Setup) (n : Node S) (m : Message S) → S.Q ≤ length n.queue → S.W ≤ length n.waiting → arrive S n m ≡ refused
unfolding arrive meet combine append
arrive-full S n m h g = met (youngest S m.address n.queue)
  where
    full : append S n m ≡ refused
    full = rw (le-ltb _ _ h)

    combined : (older : List (Message S)) (f : Message S) (younger : List (Message S)) (o : Option S.Operation) → combine S n m older f younger o ≡ refused
    combined older f younger None = full
    combined older f younger (Some o) = rw (le-ltb _ _ g) full

    met : (f : Found (Message S)) → meet S n m f ≡ refused
    met absent = full
    met (found older f younger) = combined older f younger (S.merge f.operation m.operation)

module _ (x : Network) (st : State (setup x)) (s p : ℕ) (m : Message (setup x)) (rest : List (Message (setup x))) (is : st.requests s p ≡ m ∷ rest)
    (to : ℕ) (at : to ≡ place (setup x) m.tag (suc s)) where
  pub refused-rests : arrive (setup x) (node_at (setup x) st (suc s) to) m ≡ refused → st ≡ forward_step (setup x) s p st
  unfolding forward_step forward_oldest landed
  refused-rests arrives = rw (is, ← at, arrives)

  pub landed-sends : (came : Came) → came ≢ came_refused → (n : Node (setup x)) → arrive (setup x) (node_at (setup x) st (suc s) to) m ≡ arrival_of x came n
      → sent (setup x) st s p rest to n (merges_after came st.merges) ≡ forward_step (setup x) s p st
  unfolding forward_step forward_oldest landed
  landed-sends came here n arrives = rw (is, ← at, arrives) (go came here)
    where
      go : (c : Came) → c ≢ came_refused → sent (setup x) st s p rest to n (merges_after c st.merges) ≡ landed (setup x) st s p rest to (arrival_of x c n)
      go came_merged h = refl
      go came_appended h = refl
      go came_refused h = absurd (h refl)
