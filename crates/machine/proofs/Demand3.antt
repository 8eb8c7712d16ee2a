-- Demand 3, of every run.
use Prim.Native.Nat.{ℕ, ◌+◌, ◌*◌}
use mathlib.Core.Path.{sym, ◌∙◌, ap}
use mathlib.Core.List.{List}
use native.Mathlib.Omega.{arith}
use Rattle.lists.specs.Search.{All}
use Rattle.lists.proofs.Every.{all_map}
use Rattle.event.specs.Event.{Act}
use Rattle.machine.specs.Setup.{Setup}
use Rattle.machine.specs.State.{State, start}
use Rattle.machine.specs.Run.{events_of, moments}
use Rattle.machine.specs.Order.{Named, at_start, Demand3}
use Rattle.machine.specs.Inner.Lawful.{Lawful}
use Rattle.machine.proofs.Progress.{Live}
use Rattle.machine.proofs.Start.{start-live}
use Rattle.machine.proofs.Moments.{acts-events, acts-fit, after-final, every-moment}
use Rattle.machine.proofs.Drain.{step-keeps-live, acts-live}
use Rattle.machine.proofs.Time.{every-two-in-time}
use Rattle.machine.proofs.Ordered.{live-ordered}
use Rattle.machine.proofs.OnePlace.{live-place}
use Rattle.machine.proofs.Rest.{drain-answers-all, drained-from, drained-within}
use Rattle.machine.proofs.StepCounts.{run-accesses, run-merges}

pub demand3 : (S : Setup) → Lawful S → (words : ℕ → S.Word) (acts : List Act) → All (Named S.k) acts → Demand3 S words acts
unfolding moments
demand3 S law words acts named =
    let bound = S.R * (2 * S.k + 2) in
    let first = start-live S law words in
    let lives = every-moment S law (λ st. Live S words st bound) (step-keeps-live S law words bound) acts named (start S words) first in
    let events = events_of S acts (start S words) in
    let end = acts-live S law words acts named bound (at_start S words) first in
    record {
      every_moment = all_map (live-ordered S words law) lives;
      every_two = every-two-in-time S words law bound (acts-fit S law acts named (start S words)) (start S words) first;
      one_place = all_map (live-place S words) lives;
      last_moment = after-final S events (start S words) ∙ sym (acts-events S acts (at_start S words));
      rounds = omega (arith, end.1);
      drained = drain-answers-all S law words acts named;
      drained_from = drained-from S law words acts named;
      drained_within = drained-within S law words acts named;
      accesses = ap (λ (st : State S). st.accesses) (acts-events S acts (at_start S words)) ∙ run-accesses S words events;
      mergings = ap (λ (st : State S). st.merges) (acts-events S acts (at_start S words)) ∙ run-merges S words events;
    }
