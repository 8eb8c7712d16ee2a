-- What `step` asks for and promises, by what it is.
use Prim.Native.Nat.{ℕ, ◌≤◌, ◌<◌}
use mathlib.Core.Path.{◌≡◌, sym, ◌∙◌}
use mathlib.Core.Bool.{Bool, true, false}
use mathlib.Core.List.{List}
use native.Mathlib.Omega.{arith}
use lib.ListN.{length}
use borrow.Author.Tests.{lt-ltb, le-ltb}
use Rattle.lists.proofs.Tests.{eqb-some}
use Rattle.event.specs.Event.{Event, level_fits}
use Rattle.event.proofs.Steps.{issue-level, forward-level, module-level, return-level, collect-level, level-most}
use Rattle.store.specs.Inner.Memory.{view}
use Rattle.shown.specs.Inner.Reached.{rests_at, single}
use Rattle.shown.proofs.Rests.{rests-moves}
use Rattle.moves.specs.Inner.Moves.{words_in, ReadyWith, Moves, MovesWith}

-- ---- an event that names a step
pub record Named (m words : List ℕ) (what level position : ℕ) : Type 0 where
  pub ready : ReadyWith m words
  pub fits : level_fits (view m).fixed.k what level ≡ true

module _ {m words : List ℕ} {what level position : ℕ} (N : Named m words what level position) where
  pub level-small : level < 5
  level-small =
      let few : (view m).fixed.k ≤ 4 = rw N.ready.stands.fits.k-is N.ready.stands.fits.ranges.k-most in
      omega (arith, level-most (view m).fixed.k what level N.fits)

  -- ---- the levels of a kind
  level-0 : what ≡ 0 → level ≡ 0
  level-0 is = issue-level (view m).fixed.k what level is N.fits

  pub level-1 : what ≡ 1 → (0 < level) × (level < (view m).fixed.k)
  level-1 is = forward-level (view m).fixed.k what level is N.fits

  level-2 : what ≡ 2 → level ≡ (view m).fixed.k
  level-2 is = module-level (view m).fixed.k what level is N.fits

  pub level-3 : what ≡ 3 → (0 < level) × (level ≤ (view m).fixed.k)
  level-3 is = return-level (view m).fixed.k what level is N.fits

  level-4 : what ≡ 4 → level ≡ 0
  level-4 is = collect-level (view m).fixed.k what level is N.fits

  -- ---- there is nothing to move, or something
  module _ {r : Bool} (rests : r ≡ rests_at (view m) what level position) where
    pub rested-moves : r ≡ true → MovesWith (single what level position) m words m words
    rested-moves e = record {
      sized = N.ready.sized;
      words-sized = N.ready.words-sized;
      moved = λ x S. rests-moves x (view m) (words_in words) what level position (rw S.fits.k-is at N.fits) (sym rests ∙ e);
    }

    has-request : r ≡ false → what < 3 → 0 < length ((view m).requests level position)
    has-request e h = eqb-some (length ((view m).requests level position)) (rw (lt-ltb what 3 h) at (sym rests ∙ e))

    has-reply : r ≡ false → 3 ≤ what → 0 < length ((view m).replies level position)
    has-reply e h = eqb-some (length ((view m).replies level position)) (rw (le-ltb what 3 h) at (sym rests ∙ e))

    pub to-issue : r ≡ false → what ≡ 0 → 0 < length ((view m).requests 0 position)
    to-issue e is = rw (level-0 is) at (has-request e (omega (arith, is)))

    pub to-serve : r ≡ false → what ≡ 2 → 0 < length ((view m).requests (view m).fixed.k position)
    to-serve e is = rw (level-2 is) at (has-request e (omega (arith, is)))

    pub to-collect : r ≡ false → what ≡ 4 → 0 < length ((view m).replies 0 position)
    to-collect e is = rw (level-4 is) at (has-reply e (omega (arith, is)))

  -- ---- the step that was taken
  -- one that leaves the words
  keeps-words : {es : List Event} {m' : List ℕ} → Moves es m m' → MovesWith es m words m' words
  keeps-words M = record { sized = M.sized; words-sized = N.ready.words-sized; moved = λ x S. M.moved x (words_in words) S }

  pub issued : what ≡ 0 → {m' : List ℕ} → Moves (single 0 0 position) m m' → MovesWith (single what level position) m words m' words
  issued is M = rw (is, level-0 is) (keeps-words M)

  pub served : what ≡ 2 → {m' words' : List ℕ} → MovesWith (single 2 (view m).fixed.k position) m words m' words' →
      MovesWith (single what level position) m words m' words'
  served is M = rw (is, level-2 is) M

  pub collected : what ≡ 4 → {m' : List ℕ} → Moves (single 4 0 position) m m' → MovesWith (single what level position) m words m' words
  collected is M = rw (is, level-4 is) (keeps-words M)
