-- A row of steps in code, said once for all kinds of steps: what has moved so far is the row's events below a position, and the word that
-- the code goes by has the lengths from there on.
use Prim.Native.Nat.{ℕ, ◌+◌, ◌≤◌, ◌<◌, ◌^◌}
use mathlib.Core.Path.{◌≡◌, sym, ap, ◌∙◌}
use mathlib.Core.Logic.{◌≢◌}
use mathlib.Core.Bool.{true}
use mathlib.Core.List.{List, []}
use native.Mathlib.Decide.{dec_le}
use native.Mathlib.Omega.{arith}
use lib.Dec.{ltb}
use lib.ListN.{length}
use Rattle.lists.specs.Choice.{choose}
use Rattle.lists.proofs.Tests.{by_cases, test-cases}
use Rattle.lists.proofs.Lists.{length_some}
use Rattle.words.specs.Inner.Digits.{length_in, FirstBusy, Above}
use Rattle.words.proofs.Digits.{digit-none}
use Rattle.event.specs.Event.{level_fits}
use Rattle.wiring.proofs.Shifts.{width_small}
use Rattle.view.specs.Inner.View.{Fixed, View}
use Rattle.store.specs.Inner.Memory.{view, RowOf}
use Rattle.machine.specs.Run.{row}
use Rattle.shown.specs.Inner.Network.{Network}
use Rattle.shown.specs.Inner.Reached.{Stands, single, rests_at}
use Rattle.shown.proofs.Levels.{row-named}
use Rattle.shown.proofs.Reaching.{moved-stands}
use Rattle.shown.proofs.Below.{busy-below}
use Rattle.shown.proofs.Moving.{row-none, row-onward}
use Rattle.shown.proofs.Rests.{row-skip}
use Rattle.shown.proofs.Others.{Alike, row-others}
use Rattle.moves.specs.Inner.Moves.{words_in, ReadyWith, MovesWith}
use Rattle.rounds.specs.Inner.Steps.{queues_of}

-- ---- where nothing is there to move
empty-rests : (what level position : ℕ) (v : View) → queues_of what v level position ≡ [] → rests_at v what level position ≡ true
empty-rests what level position v = test-cases
    (λ b. choose b v.requests v.replies level position ≡ [] → rests_at v what level position ≡ true)
    (ltb what 3)
    (λ t e. rw (t, e))
    (λ t e. rw (t, e))

-- ---- the lengths that are left
-- the first position from p on with a queue that is not empty; 16 where there is none
pub record NextFull (queues : ℕ → List ℕ) (p b : ℕ) : Type 0 where
  pub above : p ≤ b
  pub below : b ≤ 16
  pub empty : (q : ℕ) → p ≤ q → q < b → queues q ≡ []
  pub full : b < 16 → queues b ≢ []

-- none below p, and from p on 0 where a queue is empty, and only there
pub record Ahead (queues : ℕ → List ℕ) (left p : ℕ) : Type 0 where
  pub gone : (q : ℕ) → q < p → length_in left q ≡ 0
  pub empty : (q : ℕ) → p ≤ q → q < 16 → length_in left q ≡ 0 → queues q ≡ []
  pub full : (q : ℕ) → p ≤ q → q < 16 → length_in left q ≢ 0 → queues q ≢ []

ahead-all : {queues : ℕ → List ℕ} {left : ℕ} → RowOf queues left → Ahead queues left 0
ahead-all R = record { gone = λ q l. absurd (omega arith); empty = λ q l. R.empty q; full = λ q l. R.full q }

module _ {queues : ℕ → List ℕ} {left p : ℕ} (A : Ahead queues left p) where
  none_ahead : p ≤ 16 → left ≡ 0 → NextFull queues p 16
  none_ahead h z = record {
    above = h;
    below = omega arith;
    empty = λ q l g. A.empty q l g (ap (λ (w : ℕ). length_in w q) z ∙ digit-none 4 q);
    full = λ l. absurd (omega arith);
  }

  module _ {b : ℕ} (first : FirstBusy left b) where
    next-ahead : NextFull queues p b
    next-ahead =
        let from : p ≤ b = by_cases (dec_le p b) (λ (h : p ≤ b). h) (λ (h : ¬ (p ≤ b)). absurd (first.busy (A.gone b (omega arith)))) in
        record {
          above = from;
          below = omega (arith, first.within);
          empty = λ q l g. A.empty q l (omega (arith, first.within)) (first.idle q g);
          full = λ l. A.full b from l first.busy;
        }

    -- the queues behind b are as they were
    ahead-behind : {queues' : ℕ → List ℕ} {left' : ℕ} → Above left b left' → ((q : ℕ) → q ≢ b → Alike (queues q) (queues' q)) → Ahead queues' left' (b + 1)
    ahead-behind over others = record {
      gone = λ q l. over.gone q (omega arith);
      empty = λ q l g z. (others q (λ e. omega arith)).on (A.empty q (omega (arith, next-ahead.above)) g (sym (over.kept q (omega arith)) ∙ z));
      full = λ q l g n z. A.full q (omega (arith, next-ahead.above)) g (λ e. n (over.kept q (omega arith) ∙ e)) ((others q (λ e. omega arith)).back z);
    }

-- ---- the levels of a machine that stands for a state
pub levels-within : {x : Network} {v : View} {words : ℕ → ℕ} → Stands x v words → (0 < v.fixed.k) × (v.fixed.k ≤ 4)
levels-within S = (omega (arith, S.fits.k-is, S.fits.ranges.k-least), omega (arith, S.fits.k-is, S.fits.ranges.k-most))

-- ---- a row so far
pub record Row (what level : ℕ) (m₀ words₀ m words : List ℕ) (p : ℕ) : Type 0 where
  pub fits : level_fits (view m₀).fixed.k what level ≡ true
  pub began : ReadyWith m₀ words₀
  pub inside : p ≤ 2 ^ (view m₀).fixed.k
  pub moves : MovesWith (row what level p) m₀ words₀ m words

module _ {what level : ℕ} {m₀ words₀ : List ℕ} where
  module _ {p : ℕ} {m words : List ℕ} (A : Row what level m₀ words₀ m words p) where
    fits-network : {x : Network} → Stands x (view m₀) (words_in words₀) → level_fits x.k what level ≡ true
    fits-network S = rw S.fits.k-is at A.fits

    stands-now : (x : Network) → Stands x (view m₀) (words_in words₀) → Stands x (view m) (words_in words)
    stands-now x S = moved-stands S (row-named x.k what level p (fits-network S)) (A.moves.moved x S)

    abbrev row-ready : ReadyWith m words
    row-ready = record {
      sized = A.moves.sized;
      words-sized = A.moves.words-sized;
      network = A.began.network;
      stands = stands-now A.began.network A.began.stands;
    }

    -- the machine has as many levels as before
    row_same : (view m).fixed.k ≡ (view m₀).fixed.k
    row_same = ap (λ (f : Fixed). f.k) (A.moves.moved A.began.network A.began.stands).fixed

    row-width : 2 ^ (view m₀).fixed.k ≤ 16
    row-width = width_small (view m₀).fixed.k (levels-within A.began.stands).1

    -- b is the next position with something to move
    module _ {b : ℕ} (next : NextFull (queues_of what (view m) level) p b) where
      passed : (q : ℕ) → p ≤ q → q ≤ b → MovesWith (row what level q) m₀ words₀ m words
      passed q l h = record {
        sized = A.moves.sized;
        words-sized = A.moves.words-sized;
        moved = λ x S. row-skip what level p (fits-network S) (A.moves.moved x S) q l
            (λ j f g. empty-rests what level j (view m) (next.empty j f (omega arith)));
      }

      -- there is none
      row-rests : 16 ≤ b → MovesWith (row what level (2 ^ (view m₀).fixed.k)) m₀ words₀ m words
      row-rests h = passed (2 ^ (view m₀).fixed.k) A.inside (omega (arith, row-width))

      module _ (h : b < 16) where
        row-full : 0 < length (queues_of what (view m) level b)
        row-full = length_some (queues_of what (view m) level b) (next.full h)

        row_below : b < 2 ^ (view m₀).fixed.k
        row_below = rw A.began.stands.fits.k-is (busy-below row-ready.stands level b (ltb what 3) row-full)

        module _ {m' words' : List ℕ} (M : MovesWith (single what level b) m words m' words') where
          -- the others of its row are as they were
          row-alike : (q : ℕ) → q ≢ b → Alike (queues_of what (view m) level q) (queues_of what (view m') level q)
          row-alike q n = row-others what level b q n (fits-network A.began.stands) (M.moved A.began.network row-ready.stands)

          -- its step is taken
          row_goes : Row what level m₀ words₀ m' words' (b + 1)
          row_goes = record {
            fits = A.fits;
            began = A.began;
            inside = omega (arith, row_below);
            moves = record {
              sized = M.sized;
              words-sized = M.words-sized;
              moved = λ x S. row-onward what level b ((passed b next.above (omega arith)).moved x S) (M.moved x (stands-now x S));
            };
          }

-- ---- a row and the lengths that are left
pub record Going (what level : ℕ) (m₀ words₀ m words : List ℕ) (left : ℕ) : Type 0 where
  pub at : ℕ
  pub row : Row what level m₀ words₀ m words at
  pub ahead : Ahead (queues_of what (view m) level) left at

module _ {what level : ℕ} {m₀ words₀ : List ℕ} where
  pub going-begins : {left : ℕ} → level_fits (view m₀).fixed.k what level ≡ true → ReadyWith m₀ words₀ →
      RowOf (queues_of what (view m₀) level) left → Going what level m₀ words₀ m₀ words₀ left
  going-begins f R lengths = record {
    at = 0;
    row = record {
      fits = f;
      began = R;
      inside = omega arith;
      moves = record { sized = R.sized; words-sized = R.words-sized; moved = λ x S. row-none what level };
    };
    ahead = ahead-all lengths;
  }

  module _ {left : ℕ} {m words : List ℕ} (G : Going what level m₀ words₀ m words left) where
    pub going-ready : ReadyWith m words
    going-ready = row-ready G.row

    pub going-same : (view m).fixed.k ≡ (view m₀).fixed.k
    going-same = row_same G.row

    pub going-rests : left ≡ 0 → MovesWith (row what level (2 ^ (view m₀).fixed.k)) m₀ words₀ m words
    going-rests z = row-rests G.row (none_ahead G.ahead (omega (arith, G.row.inside, row-width G.row)) z) (omega arith)

    module _ {b : ℕ} (first : FirstBusy left b) where
      pub going-full : 0 < length (queues_of what (view m) level b)
      going-full = row-full G.row (next-ahead G.ahead first) first.within

      pub going_on : {left' : ℕ} → Above left b left' → {m' words' : List ℕ} → MovesWith (single what level b) m words m' words' →
          Going what level m₀ words₀ m' words' left'
      going_on over M =
          let next = next-ahead G.ahead first in
          record {
            at = b + 1;
            row = row_goes G.row next first.within M;
            ahead = ahead-behind G.ahead first over (row-alike G.row next first.within M);
          }
