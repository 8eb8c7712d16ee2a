-- Rows at levels that rise and that fall, and the round.
use Prim.Native.Nat.{ℕ, ◌+◌, ◌-◌, ◌≤◌, ◌<◌, ◌^◌}
use mathlib.Core.Path.{◌≡◌, refl, ap, subst, ◌∙◌}
use mathlib.Core.List.{List, ◌++◌}
use native.Mathlib.Omega.{arith}
use Rattle.event.specs.Event.{Event}
use Rattle.event.proofs.Steps.{issues-fit, forwards-fit, modules-fit, returns-fit, collects-fit}
use Rattle.view.specs.Inner.View.{Fixed}
use Rattle.store.specs.Inner.Memory.{view}
use Rattle.machine.specs.Run.{row, rows_up, rows_down, round}
use Rattle.shown.specs.Inner.Network.{Network}
use Rattle.shown.specs.Inner.Reached.{Stands, Moved}
use Rattle.shown.proofs.Levels.{AllFit, row-named, up_named, down-named}
use Rattle.shown.proofs.Reaching.{moved-stands}
use Rattle.shown.proofs.Moving.{moved_none, moved-append, up_none, up-onward, down-none, down-onward}
use Rattle.moves.specs.Inner.Moves.{words_in, Ready, ReadyWith, Moves, MovesWith}
use Rattle.rounds.proofs.Rows.{levels-within}

-- ---- a step that moves no words takes that of a row
pub ready-alone : {m words : List ℕ} → ReadyWith m words → Ready m
ready-alone {m} {words} R = record { sized = R.sized; network = R.network; words = words_in words; stands = R.stands }

-- whatever the words: so with these
pub moves-with : {es : List Event} {m words m' words' : List ℕ} → ReadyWith m words → Moves es m m' → words' ≡ words → MovesWith es m words m' words'
moves-with {words = words} R M e = rw e record { sized = M.sized; words-sized = R.words-sized; moved = λ x S. M.moved x (words_in words) S }

-- ---- events that each number of levels has
module _ (events : ℕ → List Event) (fit : (k : ℕ) → 0 < k → AllFit k (events k)) {m words m' words' : List ℕ}
    (M : MovesWith (events (view m).fixed.k) m words m' words') where
  pub with-stand : (x : Network) → Stands x (view m) (words_in words) → Stands x (view m') (words_in words')
  with-stand x S =
      moved-stands S (subst (λ k. AllFit k (events (view m).fixed.k)) S.fits.k-is (fit (view m).fixed.k (levels-within S).0)) (M.moved x S)

  with-ready : ReadyWith m words → ReadyWith m' words'
  with-ready R = record { sized = M.sized; words-sized = M.words-sized; network = R.network; stands = with-stand R.network R.stands }

  with-same : ReadyWith m words → (view m').fixed.k ≡ (view m).fixed.k
  with-same R = ap (λ (f : Fixed). f.k) (M.moved R.network R.stands).fixed

-- ---- "returns at levels 1 to k": those below the next level so far
pub record Risen (m₀ words₀ m words : List ℕ) (next : ℕ) : Type 0 where
  pub began : ReadyWith m₀ words₀
  pub onward : 0 < next
  pub inside : next ≤ (view m₀).fixed.k + 1
  pub moves : MovesWith (rows_up 3 (next - 1) (2 ^ (view m₀).fixed.k)) m₀ words₀ m words

pub risen-begins : {m words : List ℕ} → ReadyWith m words → Risen m words m words 1
risen-begins {m} R = record {
  began = R;
  onward = omega arith;
  inside = omega arith;
  moves = record { sized = R.sized; words-sized = R.words-sized; moved = λ x S. up_none 3 (2 ^ (view m).fixed.k) };
}

module _ {m₀ words₀ m words : List ℕ} {next : ℕ} (A : Risen m₀ words₀ m words next) where
  risen-stands : (x : Network) → Stands x (view m₀) (words_in words₀) → Stands x (view m) (words_in words)
  risen-stands x S = moved-stands S
      (up_named x.k 3 (next - 1) (2 ^ (view m₀).fixed.k) (λ l h g. returns-fit x.k l h (omega (arith, A.inside, S.fits.k-is)))) (A.moves.moved x S)

  risen_same : (view m).fixed.k ≡ (view m₀).fixed.k
  risen_same = ap (λ (f : Fixed). f.k) (A.moves.moved A.began.network A.began.stands).fixed

  pub risen-ready : ReadyWith m words
  risen-ready = record {
    sized = A.moves.sized;
    words-sized = A.moves.words-sized;
    network = A.began.network;
    stands = risen-stands A.began.network A.began.stands;
  }

  module _ (h : next ≤ (view m₀).fixed.k) where
    pub risen-level : (0 < next) × (next ≤ (view m).fixed.k)
    risen-level = (A.onward, omega (arith, risen_same))

    pub risen-goes : {m' words' : List ℕ} → MovesWith (row 3 next (2 ^ (view m).fixed.k)) m words m' words' → Risen m₀ words₀ m' words' (next + 1)
    risen-goes {m'} {words'} M =
        let one : next - 1 + 1 ≡ next = omega (arith, A.onward) in
        let now : next + 1 - 1 ≡ next = omega arith in
        record {
          began = A.began;
          onward = omega arith;
          inside = omega arith;
          moves = record {
            sized = M.sized;
            words-sized = M.words-sized;
            moved = λ x S. rw (now, ← one) (up-onward 3 (next - 1) (2 ^ (view m₀).fixed.k) (A.moves.moved x S)
                (subst (λ k. Moved x (row 3 (next - 1 + 1) (2 ^ k)) (view m) (words_in words) (view m') (words_in words')) risen_same
                (rw one (M.moved x (risen-stands x S)))));
          };
        }

  pub risen-ends : next ≡ (view m₀).fixed.k + 1 → MovesWith (rows_up 3 (view m₀).fixed.k (2 ^ (view m₀).fixed.k)) m₀ words₀ m words
  risen-ends z = let e : next - 1 ≡ (view m₀).fixed.k = omega arith in rw e at A.moves

-- ---- "forwards at levels k-1 down to 1": the levels that are left lead to the whole
pub record Falling (m₀ words₀ m words : List ℕ) (level : ℕ) : Type 0 where
  pub ready : ReadyWith m words
  pub same : (view m).fixed.k ≡ (view m₀).fixed.k
  pub inside : level < (view m₀).fixed.k
  pub leads : {m' words' : List ℕ} → MovesWith (rows_down 1 level (2 ^ (view m₀).fixed.k)) m words m' words' →
      MovesWith (rows_down 1 ((view m₀).fixed.k - 1) (2 ^ (view m₀).fixed.k)) m₀ words₀ m' words'

pub falling-begins : {m words : List ℕ} {level : ℕ} → ReadyWith m words → level ≡ (view m).fixed.k - 1 → Falling m words m words level
falling-begins {m} {words} {level} R e = record { ready = R; same = refl; inside = omega (arith, levels-within R.stands); leads = λ M. rw e at M }

module _ {m₀ words₀ m words : List ℕ} {level : ℕ} (A : Falling m₀ words₀ m words level) where
  pub falling-level : level < (view m).fixed.k
  falling-level = omega (arith, A.same, A.inside)

  module _ (h : 0 < level) {m' words' : List ℕ} (M : MovesWith (row 1 level (2 ^ (view m).fixed.k)) m words m' words') where
    falling_stands : (x : Network) → Stands x (view m) (words_in words) → Stands x (view m') (words_in words')
    falling_stands x S =
        moved-stands S (row-named x.k 1 level (2 ^ (view m).fixed.k) (forwards-fit x.k level h (omega (arith, falling-level, S.fits.k-is)))) (M.moved x S)

    pub falling-goes : Falling m₀ words₀ m' words' (level - 1)
    falling-goes = record {
      ready = record {
        sized = M.sized;
        words-sized = M.words-sized;
        network = A.ready.network;
        stands = falling_stands A.ready.network A.ready.stands;
      };
      same = ap (λ (f : Fixed). f.k) (M.moved A.ready.network A.ready.stands).fixed ∙ A.same;
      inside = omega (arith, A.inside);
      leads = λ M'. A.leads (record {
        sized = M'.sized;
        words-sized = M'.words-sized;
        moved = λ x S. down-onward 1 level (2 ^ (view m₀).fixed.k) h
            (subst (λ k. Moved x (row 1 level (2 ^ k)) (view m) (words_in words) (view m') (words_in words')) A.same (M.moved x S))
            (M'.moved x (falling_stands x S));
      });
    }

  pub falling-ends : level ≡ 0 → MovesWith (rows_down 1 ((view m₀).fixed.k - 1) (2 ^ (view m₀).fixed.k)) m₀ words₀ m words
  falling-ends e = A.leads (record {
    sized = A.ready.sized;
    words-sized = A.ready.words-sized;
    moved = λ x S. rw e (down-none 1 (2 ^ (view m₀).fixed.k));
  })

-- ---- the round so far
pub record Going (es : List Event) (m₀ words₀ m words : List ℕ) : Type 0 where
  pub ready : ReadyWith m words
  pub same : (view m).fixed.k ≡ (view m₀).fixed.k
  pub stands : (x : Network) → Stands x (view m₀) (words_in words₀) → Stands x (view m) (words_in words)
  pub moves : MovesWith es m₀ words₀ m words

module _ (events : ℕ → List Event) (fit : (k : ℕ) → 0 < k → AllFit k (events k)) where
  going-onward : {es : List Event} {m₀ words₀ m words m' words' : List ℕ} → Going es m₀ words₀ m words → MovesWith (events (view m).fixed.k) m words m' words'
      → Going (es ++ events (view m₀).fixed.k) m₀ words₀ m' words'
  going-onward {m = m} {words = words} {m' = m'} {words' = words'} A M = record {
    ready = with-ready events fit M A.ready;
    same = with-same events fit M A.ready ∙ A.same;
    stands = λ x S. with-stand events fit M x (A.stands x S);
    moves = record {
      sized = M.sized;
      words-sized = M.words-sized;
      moved = λ x S. moved-append (A.moves.moved x S)
          (subst (λ k. Moved x (events k) (view m) (words_in words) (view m') (words_in words')) A.same (M.moved x (A.stands x S)));
    };
  }

-- "collects; returns at levels 1 to k; modules; forwards at levels k-1 down to 1; issues"
abbrev collecting : ℕ → List Event
collecting k = row 4 0 (2 ^ k)

abbrev returning : ℕ → List Event
returning k = collecting k ++ rows_up 3 k (2 ^ k)

abbrev serving : ℕ → List Event
serving k = returning k ++ row 2 k (2 ^ k)

abbrev forwarding : ℕ → List Event
forwarding k = serving k ++ rows_down 1 (k - 1) (2 ^ k)

pub round-collects : {m words m' words' : List ℕ} → ReadyWith m words → MovesWith (row 4 0 (2 ^ (view m).fixed.k)) m words m' words' →
    Going (collecting (view m).fixed.k) m words m' words'
round-collects R M = going-onward (λ k. row 4 0 (2 ^ k)) (λ k h. row-named k 4 0 (2 ^ k) (collects-fit k))
    (record { ready = R; same = refl; stands = λ x S. S; moves = record { sized = R.sized; words-sized = R.words-sized; moved = λ x S. moved_none } }) M

module _ {m₀ words₀ m words m' words' : List ℕ} where
  pub round-returns : Going (collecting (view m₀).fixed.k) m₀ words₀ m words → MovesWith (rows_up 3 (view m).fixed.k (2 ^ (view m).fixed.k)) m words m' words'
      → Going (returning (view m₀).fixed.k) m₀ words₀ m' words'
  round-returns A M = going-onward (λ k. rows_up 3 k (2 ^ k)) (λ k h. up_named k 3 k (2 ^ k) (returns-fit k)) A M

  pub round-modules : Going (returning (view m₀).fixed.k) m₀ words₀ m words → MovesWith (row 2 (view m).fixed.k (2 ^ (view m).fixed.k)) m words m' words'
      → Going (serving (view m₀).fixed.k) m₀ words₀ m' words'
  round-modules A M = going-onward (λ k. row 2 k (2 ^ k)) (λ k h. row-named k 2 k (2 ^ k) (modules-fit k)) A M

  pub round-forwards : Going (serving (view m₀).fixed.k) m₀ words₀ m words →
      MovesWith (rows_down 1 ((view m).fixed.k - 1) (2 ^ (view m).fixed.k)) m words m' words'
      → Going (forwarding (view m₀).fixed.k) m₀ words₀ m' words'
  round-forwards A M =
      going-onward (λ k. rows_down 1 (k - 1) (2 ^ k)) (λ k h. down-named k 1 (k - 1) (2 ^ k) (λ l g f. forwards-fit k l g (omega arith))) A M

  pub round-issues : Going (forwarding (view m₀).fixed.k) m₀ words₀ m words → MovesWith (row 0 0 (2 ^ (view m).fixed.k)) m words m' words'
      → MovesWith (round (view m₀).fixed.k (2 ^ (view m₀).fixed.k)) m₀ words₀ m' words'
  unfolding round
  round-issues A M = (going-onward (λ k. row 0 0 (2 ^ k)) (λ k h. row-named k 0 0 (2 ^ k) (issues-fit k)) A M).moves
