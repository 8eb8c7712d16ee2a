-- The machine's state that the machine in code stands for.
use Rattle.std.specs.Prelude.{ℕ, zero, suc, List, [], ◌∷◌, ◌++◌, map, eqb}
use Rattle.std.proofs.Math.Option.{Option, none, some}
use Rattle.lists.specs.Choice.{choose}
use Rattle.lists.specs.Search.{Found, first_of}
use Rattle.lists.specs.Inner.Pair.{Pair}
use Rattle.wiring.specs.Inner.Path.{position_on}
use Rattle.view.specs.Inner.View.{View, operation_in}
use Rattle.machine.specs.Setup.{Message, WaitRecord, Reply}
use Rattle.machine.specs.State.{State}
use Rattle.shown.specs.Inner.Network.{Network, setup, of_engine}

-- the engine's requests that are not issued: the one that its queue has, and all its later ones
abbrev pub unissued : Network → ℕ → List ℕ → List ℕ
unissued x e [] = []
unissued x e (t ∷ rest) = t ∷ of_engine x e (suc t)

module _ (x : Network) (v : View) where
  -- "A request message holds a tag, an address and an operation"
  abbrev pub message_of : ℕ → Message (setup x)
  message_of t = record { tag = t; address = v.fixed.address t; operation = operation_in (v.carried t) }

  -- "A wait record holds the first tag, the second tag, and the first's operation as it was before that merge"
  abbrev pub record_of : Pair → WaitRecord (setup x)
  record_of r = record { first = r.first; second = r.second; operation = operation_in (v.carried r.second) }

  -- "a reply holds a tag and a value"
  abbrev pub reply_of : ℕ → Reply (setup x)
  reply_of t = record { tag = t; value = (v.carried t).first }

  -- the tags of a level and position
  abbrev pub tags_at : ℕ → ℕ → List ℕ
  tags_at zero e = unissued x e (v.requests 0 e)
  tags_at (suc s) p = v.requests (suc s) p

  abbrev pub answer_of : ℕ → Option ℕ
  answer_of t = choose (v.answered t) (some (v.carried t).first) none

  unfoldable pub shown : (ℕ → ℕ) → State (setup x)
  shown words = record {
    requests = λ s p. map message_of (tags_at s p);
    waits = λ s p. map record_of (v.waits s p);
    replies = λ s p. map reply_of (v.replies s p);
    words = words;
    order = v.order;
    answers = answer_of;
    accesses = v.accesses;
    merges = v.merges;
  }

-- ---- searches among tags
-- "records whose first tag is t": the oldest of them
unfoldable pub oldest_pair : ℕ → List Pair → Found Pair
oldest_pair t pairs = first_of (λ (r : Pair). eqb r.first t) pairs

-- ---- the requests that a message stands for, by their tags
-- "of each second tag recorded for t at level s, oldest record first"
abbrev pub seconds_for : (ℕ → List ℕ) → ℕ → List Pair → List ℕ
seconds_for up_to t [] = []
seconds_for up_to t (r ∷ rs) = choose (eqb r.first t) (up_to r.second ++ seconds_for up_to t rs) (seconds_for up_to t rs)

-- "the requests of t up to level s", from the paths of the requests and the wait buffers
unfoldable pub tags_for : (ℕ → ℕ) → (ℕ → ℕ → List Pair) → ℕ → ℕ → List ℕ
tags_for path waits zero t = t ∷ []
tags_for path waits (suc s) t = tags_for path waits s t ++ seconds_for (tags_for path waits s) t (waits (suc s) (position_on (path t) (suc s)))
