-- One event: its what picks the step, so a view that shows that step's state is one that the event has moved.
use Prim.Native.Nat.{ℕ, ◌-◌}
use mathlib.Core.Path.{◌≡◌, sym, ◌∙◌}
use Rattle.view.specs.Inner.View.{View}
use Rattle.machine.specs.Setup.{Setup}
use Rattle.machine.specs.State.{State}
use Rattle.machine.specs.Steps.{step, issue_step, forward_step, module_step, return_step, collect_step}
use Rattle.machine.specs.Run.{run_events}
use Rattle.shown.specs.Inner.Network.{Network, setup}
use Rattle.shown.specs.Inner.Shown.{shown}
use Rattle.shown.specs.Inner.Reached.{single, Moved}

-- ---- the step of an event
module _ (S : Setup) (what level position : ℕ) (st : State S) where
  pub issue-is : what ≡ 0 → run_events S (single what level position) st ≡ issue_step S position st
  unfolding run_events step
  issue-is e = rw e

  pub forward-is : what ≡ 1 → run_events S (single what level position) st ≡ forward_step S level position st
  unfolding run_events step
  forward-is e = rw e

  pub module-is : what ≡ 2 → run_events S (single what level position) st ≡ module_step S position st
  unfolding run_events step
  module-is e = rw e

  pub return-is : what ≡ 3 → run_events S (single what level position) st ≡ return_step S (level - 1) position st
  unfolding run_events step
  return-is e = rw e

  pub collect-is : what ≡ 4 → run_events S (single what level position) st ≡ collect_step S position st
  unfolding run_events step
  collect-is e = rw e

-- ---- so the view moves
module _ {x : Network} {v v' : View} {words words' : ℕ → ℕ} (what level position : ℕ) (fixed : v'.fixed ≡ v.fixed) (rounds : v'.rounds ≡ v.rounds) where
  pub issue-moves : what ≡ 0 → shown x v' words' ≡ issue_step (setup x) position (shown x v words) → Moved x (single what level position) v words v' words'
  issue-moves e h = record { shows = h ∙ sym (issue-is (setup x) what level position (shown x v words) e); fixed = fixed; rounds = rounds }

  pub forward-moves : what ≡ 1 → shown x v' words' ≡ forward_step (setup x) level position (shown x v words) →
      Moved x (single what level position) v words v' words'
  forward-moves e h = record { shows = h ∙ sym (forward-is (setup x) what level position (shown x v words) e); fixed = fixed; rounds = rounds }

  pub module-moves : what ≡ 2 → shown x v' words' ≡ module_step (setup x) position (shown x v words) → Moved x (single what level position) v words v' words'
  module-moves e h = record { shows = h ∙ sym (module-is (setup x) what level position (shown x v words) e); fixed = fixed; rounds = rounds }

  pub return-moves : what ≡ 3 → shown x v' words' ≡ return_step (setup x) (level - 1) position (shown x v words) →
      Moved x (single what level position) v words v' words'
  return-moves e h = record { shows = h ∙ sym (return-is (setup x) what level position (shown x v words) e); fixed = fixed; rounds = rounds }

  pub collect-moves : what ≡ 4 → shown x v' words' ≡ collect_step (setup x) position (shown x v words) → Moved x (single what level position) v words v' words'
  collect-moves e h = record { shows = h ∙ sym (collect-is (setup x) what level position (shown x v words) e); fixed = fixed; rounds = rounds }
