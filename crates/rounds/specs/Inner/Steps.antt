-- What is asked of a call that takes the step of a row.
use Rattle.std.specs.Prelude.{ℕ, ◌<◌, ◌≡◌, List, ltb, length}
use Rattle.std.proofs.Common.{MutBor}
use Rattle.lists.specs.Choice.{choose}
use Rattle.view.specs.Inner.View.{View}
use Rattle.store.specs.Inner.Memory.{view}
use Rattle.shown.specs.Inner.Reached.{single}
use Rattle.moves.specs.Inner.Moves.{ReadyWith, MovesWith}

-- the queues that a kind of step takes from
abbrev pub queues_of : ℕ → View → ℕ → ℕ → List ℕ
queues_of what v = choose (ltb what 3) v.requests v.replies

-- at a position with something to move it may be called, and it moves that; k is the number of levels
pub record Takes (what level k : ℕ) (pre : MutBor (List ℕ) → MutBor (List ℕ) → ℕ → Type 0)
    (post : MutBor (List ℕ) → MutBor (List ℕ) → ℕ → MutBor (List ℕ) → MutBor (List ℕ) → Type 0) : Type 0 where
  pub may : (m words : MutBor (List ℕ)) (p : ℕ) → ReadyWith m.now words.now → (view m.now).fixed.k ≡ k → p < 16 →
      0 < length (queues_of what (view m.now) level p) → pre m words p
  pub moves : (m words : MutBor (List ℕ)) (p : ℕ) (m' words' : MutBor (List ℕ)) → ReadyWith m.now words.now → (view m.now).fixed.k ≡ k →
      post m words p m' words' → MovesWith (single what level p) m.now words.now m'.now words'.now
