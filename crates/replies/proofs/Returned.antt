-- A reply one level down, by the tag's own path, or its record's second tag answered: the machine's return.
use Prim.Native.Nat.{ℕ, suc, ◌-◌, ◌≤◌, ◌<◌}
use mathlib.Core.Path.{◌≡◌, refl, sym, ap, subst, ◌∙◌}
use mathlib.Core.List.{List, [], ◌∷◌, ◌++◌}
use native.Mathlib.Decide.{dec_lt}
use native.Mathlib.Omega.{arith}
use lib.ListN.{length, get_or, take, drop, length-append, length-take, length-drop}
use lib.Dec.{eqb}
use borrow.Author.Tests.{lt-ltb, le-ltb}
use Rattle.lists.specs.Search.{Found, first_of}
use Rattle.lists.specs.Inner.Pair.{Pair}
use Rattle.lists.proofs.Tests.{by_cases}
use Rattle.lists.proofs.Tables.{update2-level}
use Rattle.lists.proofs.Below.{length-below}
use Rattle.lists.proofs.Searches.{First, first_of-is}
use Rattle.lists.proofs.Lists.{first-is}
use Rattle.operation.specs.Operation.{applied}
use Rattle.operation.specs.declared.Operation.{Operation}
use Rattle.wiring.specs.Inner.Path.{position_on}
use Rattle.queue.specs.Inner.Queue.{pair_in, pairs_of, no_pair, found_at}
use Rattle.queue.specs.declared.Pairs.{Pairs}
use Rattle.queue.proofs.Laws.{pairs-at}
use Rattle.words.specs.Inner.Digits.{byte_in}
use Rattle.std.proofs.Common.{Option, None, Some}
use Rattle.view.specs.Inner.View.{View, with_replies, with_carried, with_waits, operation_in, valued, with_reply}
use Rattle.store.specs.Inner.Layout.{size}
use Rattle.store.specs.Inner.Memory.{view, Becomes}
use Rattle.shown.specs.Inner.Shown.{oldest_pair}
use Rattle.shown.specs.Inner.Reached.{single}
use Rattle.shown.proofs.Reaching.{stands-sound}
use Rattle.shown.proofs.Returning.{return-lowers, return-lower-full, return-splits, return-split-full}
use Rattle.shown.proofs.Events.{return-moves}
use Rattle.moves.specs.Inner.Moves.{Moves}
use Rattle.replies.specs.Inner.Returns.{Lowered, SplitOff}

-- as many as the machine's buffer has
pub length-loaded : (waits : Pairs) {l : List Pair} → pairs_of waits ≡ l → waits.len ≡ length l
length-loaded waits e = sym (length-below waits.len (pair_in waits.firsts waits.seconds)) ∙ ap length e

-- ---- t itself goes down
module _ (m : List ℕ) (level s p t to : ℕ) (up : level ≡ suc s) (on : to ≡ position_on ((view m).fixed.path t) s) where
  module _ {m₁ : List ℕ} (popped : Becomes m₁ (with_replies (view m) level p (drop 1 ((view m).replies level p)))) where
    -- the target is another queue than the one that it leaves
    pub target-kept : (view m₁).replies s to ≡ (view m).replies s to
    target-kept = rw popped.holds (update2-level (view m).replies level p (drop 1 ((view m).replies level p)) s to (omega arith))

    pub lower-room : {m₂ : List ℕ} → length ((view m).replies s to) < (view m).fixed.q → Becomes m₂ (with_reply (view m₁) s to t) → Lowered (view m) s p t m₂
    lower-room {m₂} room pushed =
        let longer = (view m).replies s to ++ (t ∷ []) in
        let is : view m₂ ≡ with_replies (view m₁) s to longer = rw target-kept at pushed.holds in
        record { sized = pushed.sized; lowered = rw (← on, lt-ltb _ _ room, ← up) (is ∙ ap (λ (v : View). with_replies v s to longer) popped.holds) }

-- ---- the second tag u of the record at place i is answered
second-is : (waits : Pairs) (i : ℕ) {u : ℕ} → i < waits.len → u ≡ byte_in waits.seconds i → u ≡ (get_or (pairs_of waits) i no_pair).second
second-is waits i l e = e ∙ sym (ap (λ (r : Pair). r.second) (pairs-at waits.firsts waits.seconds waits.len i l))

module _ (m : List ℕ) {s to u : ℕ} (waits : Pairs) {i : ℕ} (inside : i < waits.len) (read : u ≡ byte_in waits.seconds i)
    (on : to ≡ position_on ((view m).fixed.path u) s) where
  pub split-full : {p t : ℕ} → length m ≡ size → (view m).fixed.q ≤ length ((view m).replies s to) → SplitOff (view m) s p t (pairs_of waits) i m
  split-full sized full = record { sized = sized; split = rw (← second-is waits i inside read, ← on, le-ltb _ _ full) }

  pub split-room : {level p t : ℕ} → level ≡ suc s → {m₁ m₂ m₃ : List ℕ} {f : Operation} {value answer : ℕ} {left : List Pair} → length ((view m).replies s to) < (view m).fixed.q →
      f ≡ operation_in ((view m).carried u) → value ≡ ((view m).carried t).first → answer ≡ applied f value → left ≡ take i (pairs_of waits) ++ drop (suc i) (pairs_of waits) →
      Becomes m₁ (with_carried (view m) u (valued ((view m).carried u) answer)) → Becomes m₂ (with_reply (view m₁) s to u) →
      Becomes m₃ (with_waits (view m₂) level p left) → SplitOff (view m) s p t (pairs_of waits) i m₃
  split-room up room operation was answered gone set pushed stored = record {
    sized = stored.sized;
    split = rw (← second-is waits i inside read, ← on, lt-ltb _ _ room, ← up, ← gone, ← operation, ← was, ← answered, stored.holds, pushed.holds, set.holds);
  }

-- ---- the step
-- a record that is found stands among those that were loaded
pub found_within : (t : ℕ) (waits : Pairs) (i : ℕ) → found_at (pairs_of waits) (Some i) ≡ first_of (λ (r : Pair). eqb r.first t) (pairs_of waits) → i < waits.len
found_within t waits i is =
    let pairs = pairs_of waits in
    let f : First (λ (r : Pair). eqb r.first t) pairs (found_at pairs (Some i)) =
    subst (λ (f : Found Pair). First (λ (r : Pair). eqb r.first t) pairs f) (sym is) (first_of-is (λ (r : Pair). eqb r.first t) pairs) in
    let n = ap length f.0 ∙ length-append (take i pairs) (get_or pairs i no_pair ∷ drop (suc i) pairs) in
    omega (arith, n, length-take i pairs, length-drop (suc i) pairs, length-loaded waits refl)

module _ (m : List ℕ) (level p t : ℕ) (up : 0 < level) (low : level ≤ (view m).fixed.k) (some : 0 < length ((view m).replies level p))
    (oldest : t ≡ get_or ((view m).replies level p) 0 0) where
  abbrev s : ℕ
  s = level - 1

  at_level : suc s ≡ level
  at_level = omega arith

  is : (view m).replies (suc s) p ≡ t ∷ drop 1 ((view m).replies (suc s) p)
  is = rw at_level (first-is ((view m).replies level p) t some oldest)

  module _ (pairs : List Pair) (loaded : pairs ≡ (view m).waits level p) where
    looked : (place : Option ℕ) → found_at pairs place ≡ first_of (λ (r : Pair). eqb r.first t) pairs →
        oldest_pair t ((view m).waits (suc s) p) ≡ found_at pairs place
    unfolding oldest_pair
    looked place f = rw (at_level, ← loaded) (sym f)

    pub lower-returns : {m' : List ℕ} → found_at pairs None ≡ first_of (λ (r : Pair). eqb r.first t) pairs → Lowered (view m) (level - 1) p t m' →
        Moves (single 3 level p) m m'
    lower-returns f L = record {
      sized = L.sized;
      moved = λ x words S. by_cases (dec_lt (length ((view m).replies s (position_on ((view m).fixed.path t) s))) (view m).fixed.q)
          (λ room. rw (rw (lt-ltb _ _ room) at L.lowered) (return-moves 3 level p refl refl refl
          (return-lowers x (view m) words S.fits (stands-sound S) s p t (drop 1 ((view m).replies (suc s) p)) (omega (arith, S.fits.k-is)) is
          (looked None f) (position_on ((view m).fixed.path t) s) refl (omega (arith, S.fits.q-is)))))
          (λ full. let fits : (view m).fixed.q ≤ length ((view m).replies s (position_on ((view m).fixed.path t) s)) = omega arith in
          rw (rw (le-ltb _ _ fits) at L.lowered) (return-moves 3 level p refl refl refl
          (return-lower-full x (view m) words S.fits (stands-sound S) s p t (drop 1 ((view m).replies (suc s) p)) (omega (arith, S.fits.k-is)) is
          (looked None f) (position_on ((view m).fixed.path t) s) refl (omega (arith, S.fits.q-is)))));
    }

    pub split-returns : {m' : List ℕ} (i : ℕ) → found_at pairs (Some i) ≡ first_of (λ (r : Pair). eqb r.first t) pairs →
        SplitOff (view m) (level - 1) p t pairs i m' → Moves (single 3 level p) m m'
    split-returns i f L =
        let u = (get_or pairs i no_pair).second in
        let to = position_on ((view m).fixed.path u) s in
        record {
          sized = L.sized;
          moved = λ x words S. by_cases (dec_lt (length ((view m).replies s to)) (view m).fixed.q)
              (λ room. rw (rw (lt-ltb _ _ room) at L.split) (return-moves 3 level p refl refl refl
              (return-splits x (view m) words S.fits (stands-sound S) s p t (drop 1 ((view m).replies (suc s) p)) (omega (arith, S.fits.k-is)) is
              (take i pairs) (get_or pairs i no_pair) (drop (suc i) pairs) (looked (Some i) f) to refl (omega (arith, S.fits.q-is)))))
              (λ full. let fits : (view m).fixed.q ≤ length ((view m).replies s to) = omega arith in
              rw (rw (le-ltb _ _ fits) at L.split) (return-moves 3 level p refl refl refl
              (return-split-full x (view m) words S.fits (stands-sound S) s p t (drop 1 ((view m).replies (suc s) p)) (omega (arith, S.fits.k-is)) is
              (take i pairs) (get_or pairs i no_pair) (drop (suc i) pairs) (looked (Some i) f) to refl (omega (arith, S.fits.q-is)))));
        }
