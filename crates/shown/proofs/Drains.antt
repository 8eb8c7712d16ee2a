-- Drains, round by round; and where every request is answered nothing moves any more.
use Prim.Native.Nat.{ℕ, zero, suc, ◌+◌, ◌-◌, ◌≤◌, ◌<◌}
use mathlib.Core.Path.{◌≡◌, refl, ap}
use mathlib.Core.Bool.{true, false}
use mathlib.Core.List.{List}
use native.Mathlib.Omega.{arith}
use Rattle.lists.specs.Search.{All}
use Rattle.lists.proofs.Tests.{test-cases}
use Rattle.event.specs.Event.{Act}
use Rattle.view.specs.Inner.View.{View, with_round}
use Rattle.machine.specs.Setup.{Setup}
use Rattle.machine.specs.Run.{Ran, run_events, round, drain_run, all_answered, run_acts}
use Rattle.machine.specs.Order.{Named}
use Rattle.machine.proofs.Sound.{drain-from}
use Rattle.machine.proofs.Rest.{drain-rests, reached-rests}
use Rattle.shown.specs.Inner.Network.{Network, setup}
use Rattle.shown.specs.Inner.Shown.{shown}
use Rattle.shown.specs.Inner.Reached.{Stands, shown_run, Moved}
use Rattle.shown.proofs.Reaching.{moves-few, stands-lawful}

-- a run after one round more
abbrev round_more : (S : Setup) → Ran S → Ran S
round_more S r = record { state = run_events S (round S.k S.N) r.state; rounds = suc r.rounds }

-- "The rounds counted are the rounds run": none is taken back
drain-counts : (S : Setup) (n : ℕ) (r : Ran S) → r.rounds ≤ (drain_run S n r).rounds
unfolding drain_run
drain-counts S zero r = omega arith
drain-counts S (suc n) r = test-cases
    (λ b. let after : Ran S = elim b [ true ↦ r | false ↦ drain_run S n (round_more S r) ] in r.rounds ≤ after.rounds)
    (all_answered S r.state) (λ _. omega arith) (λ _. omega (arith, drain-counts S n (round_more S r)))

module _ (x : Network) (v : View) (words : ℕ → ℕ) where
  -- "or its allowance is spent"
  pub drain-spent : drain_run (setup x) 0 (shown_run x v words) ≡ shown_run x v words
  unfolding drain_run
  drain-spent = refl

  -- "stops when every request is answered"
  pub drain-stops : all_answered (setup x) (shown x v words) ≡ true → (n : ℕ) → drain_run (setup x) n (shown_run x v words) ≡ shown_run x v words
  drain-stops h n = drain-rests (setup x) n (shown_run x v words) h

module _ {x : Network} {v : View} {words : ℕ → ℕ} where
  -- ---- one round more
  pub round-stands : Stands x v words → Stands x (with_round v) words
  unfolding shown
  round-stands S = record { fits = S.fits; reached = S.reached }

  module _ {v₁ : View} {words₁ : ℕ → ℕ} (g : Moved x (round x.k (setup x).N) v words v₁ words₁) where
    round-shown : shown_run x (with_round v₁) words₁ ≡ round_more (setup x) (shown_run x v words)
    unfolding shown
    round-shown = λ i. record { state = g.shows i; rounds = suc (g.rounds i) }

    pub round-drains : all_answered (setup x) (shown x v words) ≡ false → (n : ℕ) → 0 < n
        → drain_run (setup x) n (shown_run x v words) ≡ drain_run (setup x) (n - 1) (shown_run x (with_round v₁) words₁)
    unfolding drain_run
    round-drains h zero l = absurd (omega arith)
    round-drains h (suc n) l = let z : suc n - 1 ≡ n = omega arith in rw (z, round-shown, h, drain_run)

  -- the rounds of a drain are few, so one more can be counted wherever it has come to
  pub drain-few : Stands x v words → (n : ℕ) → (drain_run (setup x) n (shown_run x v words)).rounds ≤ v.rounds + 2560
  drain-few S n =
      let R = S.reached in
      rw R.reached (omega (arith, drain-from (setup x) (stands-lawful S) R.from R.events R.named n v.rounds, moves-few S.fits.ranges))

  pub rounds-few : Stands x v words → (n m : ℕ) (v₁ : View) (words₁ : ℕ → ℕ) →
      drain_run (setup x) n (shown_run x v words) ≡ drain_run (setup x) m (shown_run x v₁ words₁) → v₁.rounds ≤ v.rounds + 2560
  rounds-few S n m v₁ words₁ e = omega (arith, drain-few S n, ap (λ (r : Ran (setup x)). r.rounds) e, drain-counts (setup x) m (shown_run x v₁ words₁))

  -- every request is answered: nothing moves any more
  pub all_rest : Stands x v words → all_answered (setup x) (shown x v words) ≡ true → (acts : List Act) → All (Named x.k) acts
      → run_acts (setup x) acts (shown_run x v words) ≡ shown_run x v words
  all_rest S h acts named =
      rw S.reached.reached
      (reached-rests (setup x) (stands-lawful S) S.reached.from S.reached.named (rw S.reached.reached at h) acts named v.rounds)
