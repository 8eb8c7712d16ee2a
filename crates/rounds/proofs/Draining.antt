-- Whether every request is answered, and the drain, round by round.
use Prim.Native.Nat.{ℕ, ◌-◌, ◌<◌, ◌^◌}
use mathlib.Core.Path.{◌≡◌, refl, sym, ap, subst, ◌∙◌}
use mathlib.Core.Bool.{Bool, true, false}
use mathlib.Core.List.{List}
use native.Mathlib.Omega.{arith}
use Rattle.view.specs.Inner.View.{View, with_round}
use Rattle.store.specs.Inner.Memory.{view, Becomes, Same}
use Rattle.machine.specs.Run.{round, drain_run}
use Rattle.machine.proofs.Rounds.{round-fits}
use Rattle.shown.specs.Inner.Network.{Network, setup}
use Rattle.shown.specs.Inner.Reached.{Stands, Moved, shown_run}
use Rattle.shown.proofs.Answered.{all-answered, not-all-answered}
use Rattle.shown.proofs.Drains.{drain-spent, drain-stops, round-drains, round-stands, rounds-few}
use Rattle.shown.proofs.Reaching.{stands-sound}
use Rattle.moves.specs.Inner.Moves.{words_in, ReadyWith, MovesWith}
use Rattle.rounds.specs.Inner.Drains.{Drained, AllAnswered}
use Rattle.rounds.proofs.Whole.{with-stand}

-- ---- "every request is answered"
pub answered-tells : {m : List ℕ} (r : Bool) → Same (view m).answered (view m).fixed.every r → AllAnswered m r
answered-tells {m} true s = record { tells = λ x words S. all-answered x (view m) words S.fits (s.same refl) }
answered-tells {m} false s = record { tells = λ x words S. not-all-answered x (view m) words S.fits (stands-sound S).one_place (s.differ refl) }

-- ---- the drain so far: what is left of its allowance leads to where the drain leads
pub record Draining (allowed : ℕ) (m₀ words₀ m words : List ℕ) (left : ℕ) : Type 0 where
  pub began : ReadyWith m₀ words₀
  pub few : (view m₀).rounds < 2 ^ 32
  pub ready : ReadyWith m words
  pub fixed : (view m).fixed ≡ (view m₀).fixed
  pub stands : (x : Network) → Stands x (view m₀) (words_in words₀) → Stands x (view m) (words_in words)
  pub drains : (x : Network) → Stands x (view m₀) (words_in words₀)
      → drain_run (setup x) allowed (shown_run x (view m₀) (words_in words₀)) ≡ drain_run (setup x) left (shown_run x (view m) (words_in words))

pub draining-begins : {allowed : ℕ} {m words : List ℕ} → ReadyWith m words → (view m).rounds < 2 ^ 32 → Draining allowed m words m words allowed
draining-begins R f = record { began = R; few = f; ready = R; fixed = refl; stands = λ x S. S; drains = λ x S. refl }

module _ {allowed left : ℕ} {m₀ words₀ m words : List ℕ} (A : Draining allowed m₀ words₀ m words left) where
  -- the drain is over where what is left moves nothing
  over : ((x : Network) → Stands x (view m) (words_in words) →
      drain_run (setup x) left (shown_run x (view m) (words_in words)) ≡ shown_run x (view m) (words_in words)) → Drained allowed m₀ words₀ m words
  over h = record {
    sized = A.ready.sized;
    words-sized = A.ready.words-sized;
    fixed = A.fixed;
    drained = λ x S. sym (A.drains x S ∙ h x (A.stands x S));
    stands = A.stands;
  }

  pub draining-stops : {r : Bool} → AllAnswered m r → r ≡ true → Drained allowed m₀ words₀ m words
  draining-stops a e = over (λ x S. drain-stops x (view m) (words_in words) (a.tells x (words_in words) S ∙ e) left)

  pub draining-spent : left ≡ 0 → Drained allowed m₀ words₀ m words
  draining-spent e = over (λ x S. rw e (drain-spent x (view m) (words_in words)))

  module _ {m' words' : List ℕ} (M : MovesWith (round (view m).fixed.k (2 ^ (view m).fixed.k)) m words m' words') where
    pub draining-few : (view m').rounds < 2 ^ 33
    draining-few = omega (
      arith,
      A.few,
      (M.moved A.ready.network A.ready.stands).rounds,
      rounds-few A.began.stands allowed left (view m) (words_in words) (A.drains A.began.network A.began.stands),
    )

    moved-round : (x : Network) → Stands x (view m) (words_in words) → Moved x (round x.k (2 ^ x.k)) (view m) (words_in words) (view m') (words_in words')
    moved-round x S = subst (λ k. Moved x (round k (2 ^ k)) (view m) (words_in words) (view m') (words_in words')) S.fits.k-is (M.moved x S)

    module _ {m'' : List ℕ} (B : Becomes m'' (with_round (view m'))) where
      stands_on : (x : Network) → Stands x (view m) (words_in words) → Stands x (view m'') (words_in words')
      stands_on x S = rw B.holds (round-stands (with-stand (λ k. round k (2 ^ k)) (λ k. round-fits k (2 ^ k)) M x S))

      pub draining-goes : {r : Bool} → AllAnswered m r → r ≡ false → 0 < left → Draining allowed m₀ words₀ m'' words' (left - 1)
      draining-goes a e h = record {
        began = A.began;
        few = A.few;
        ready = record {
          sized = B.sized;
          words-sized = M.words-sized;
          network = A.ready.network;
          stands = stands_on A.ready.network A.ready.stands;
        };
        fixed = ap (λ (v : View). v.fixed) B.holds ∙ (M.moved A.ready.network A.ready.stands).fixed ∙ A.fixed;
        stands = λ x S. stands_on x (A.stands x S);
        drains = λ x S. A.drains x S ∙ rw B.holds (round-drains (moved-round x (A.stands x S)) (a.tells x (words_in words) (A.stands x S) ∙ e) left h);
      }
