-- Events and drains, and which events name a step: document 01, "Trace records" and "Steps".
use Rattle.std.specs.Prelude.{ℕ, ◌^◌, Bool, false, eqb, leb, ltb}
use Rattle.lists.specs.Choice.{choose, both, within}

-- "event: what 1, level 1, position 1"
pub record Event : Type 0 where
  pub what : ℕ
  pub level : ℕ
  pub position : ℕ

-- "events and drains mixed"; "drain: most rounds allowed"
pub data Act : Type 0 where
  event : Event → Act
  drain : ℕ → Act

-- "issue, level 0"; "forward, level s from 1 to k-1"; "module, level k"; "return, level s from 1 to k"; "collect, level 0"
unfoldable pub level_fits : ℕ → ℕ → ℕ → Bool
level_fits k what level =
    choose (eqb what 0) (eqb level 0)
    (choose (eqb what 1) (both (leb 1 level) (ltb level k))
    (choose (eqb what 2) (eqb level k)
    (choose (eqb what 3) (within 1 level k)
    (choose (eqb what 4) (eqb level 0) false))))

-- a step that there is: its level fits, and its position is one of the N = 2^k
unfoldable pub names_step : ℕ → Event → Bool
names_step k e = both (ltb e.position (2 ^ k)) (level_fits k e.what e.level)
