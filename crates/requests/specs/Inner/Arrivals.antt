-- What an arrival in code asks, and what is told before it.
use Rattle.std.specs.Prelude.{ℕ, ◌≤◌, ◌<◌, Bool, length, leb}
use Rattle.lists.specs.Choice.{both}
use Rattle.view.specs.Inner.View.{View}
use Rattle.node.specs.Inner.Node.{ApartAt}

-- neither the queue nor the wait buffer has room
abbrev pub is_full : View → ℕ → ℕ → Bool
is_full v level position = both (leb v.fixed.q (length (v.requests level position))) (leb v.fixed.w (length (v.waits level position)))

-- the message t may arrive: what stands there is within the rooms, and t is not among it
abbrev pub MayArrive : View → ℕ → ℕ → ℕ → Type 0
MayArrive v t level position =
    ((0 < level) × (level < 5) × (position < 16) × (length (v.requests level position) ≤ 4) × (length (v.waits level position) ≤ 8))
    × (((v.fixed.q ≤ 4) × (v.fixed.w ≤ 8) × (v.merges < 65536)) × ApartAt t (v.requests level position) (v.waits level position))
