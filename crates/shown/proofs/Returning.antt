-- The return on the view is the machine's.
use Prim.Native.Nat.{ℕ, suc, ◌≤◌, ◌<◌}
use mathlib.Core.Path.{◌≡◌, refl, ap, ap₂, ◌∙◌}
use mathlib.Core.Logic.{◌≢◌}
use mathlib.Core.List.{List, [], ◌∷◌, ◌++◌, map}
use native.Mathlib.Omega.{arith}
use lib.ListN.{length, length-map}
use lib.Dec.{eqb}
use borrow.Author.Tests.{lt-ltb, le-ltb}
use Rattle.lists.specs.Count.{count}
use Rattle.lists.specs.Search.{absent, found}
use Rattle.lists.specs.Table.{update2}
use Rattle.lists.specs.Inner.Pair.{Pair}
use Rattle.lists.proofs.Tables.{update2-ind}
use Rattle.lists.proofs.Counts.{same-yes, count-append}
use Rattle.lists.proofs.Searches.{First, first_of-is}
use Rattle.lists.proofs.Maps.{found_map, first_of-map, map-append}
use Rattle.operation.specs.Operation.{applied}
use Rattle.operation.specs.declared.Words.{Words}
use Rattle.wiring.specs.Inner.Path.{position_on}
use Rattle.view.specs.Inner.View.{View, with_replies, with_waits, with_carried, operation_in, valued}
use Rattle.machine.specs.Setup.{WaitRecord, Reply, place}
use Rattle.machine.specs.Arrival.{oldest_of}
use Rattle.machine.specs.Steps.{answered, return_oldest, return_step}
use Rattle.machine.specs.Order.{Where, requested, waiting, replying}
use Rattle.machine.specs.Inner.Sound.{Sound}
use Rattle.shown.specs.Inner.Network.{Network, setup, Fits}
use Rattle.shown.specs.Inner.Shown.{record_of, reply_of, tags_at, shown, oldest_pair}
use Rattle.shown.proofs.Apart.{Apart, tag_times, tags-apart, other-kind, wait-elsewhere, oldest-replying, pair-waiting, unanswered}
use Rattle.shown.proofs.Carried.{state-eq, messages-framed, records-framed, records-updated, replies-updated, answers-kept, replies-pushed}

-- the record that is taken, among the others
taken-pair : (t : ℕ) (pairs : List Pair) {older : List Pair} {r : Pair} {younger : List Pair} → oldest_pair t pairs ≡ found older r younger →
    pairs ≡ older ++ (r ∷ younger)
unfolding oldest_pair
taken-pair t pairs {older} {r} {younger} is =
    let f : First (λ (r : Pair). eqb r.first t) pairs (found older r younger) = rw is at (first_of-is (λ (r : Pair). eqb r.first t) pairs) in f.0

module _ (x : Network) (v : View) (words : ℕ → ℕ) where
  module _ (F : Fits x v.fixed) (S : Sound (setup x) (shown x v words)) (s p t : ℕ) (rest : List ℕ)
      (up : suc s ≤ x.k) (is : v.replies (suc s) p ≡ t ∷ rest) where
    A : Apart x v
    A = tags-apart x v words S.one_place

    -- the search for a record sees the tags alone
    return-oldest : return_step (setup x) s p (shown x v words) ≡
        answered (setup x) (shown x v words) s p (reply_of x v t) (map (reply_of x v) rest) (found_map (record_of x v) (oldest_pair t (v.waits (suc s) p)))
    unfolding shown return_step return_oldest oldest_of oldest_pair
    return-oldest = rw (is, first_of-map (record_of x v) (λ (r : WaitRecord (setup x)). eqb r.first t) (v.waits (suc s) p))

    -- one level down, on its path
    target : (u to : ℕ) → u < x.R → to ≡ position_on (v.fixed.path u) s → to ≡ place (setup x) u s
    target u to l e = e ∙ F.path-is u l s (omega arith)

    -- ---- t itself moves one level down
    module _ (none : oldest_pair t (v.waits (suc s) p) ≡ absent) (to : ℕ) (toIs : to ≡ position_on (v.fixed.path t) s) where
      low : to ≡ place (setup x) t s
      low = target t to (A.below t (replying (suc s) p) (oldest-replying x v (suc s) p is)) toIs

      pub return-lowers : length (v.replies s to) < x.Q →
          shown x (with_replies (with_replies v (suc s) p rest) s to (v.replies s to ++ (t ∷ []))) words ≡ return_step (setup x) s p (shown x v words)
      unfolding shown answered
      return-lowers room =
          rw (return-oldest, none, ← low, length-map (v.replies s to) (reply_of x v), lt-ltb _ _ room)
          (state-eq _ _ refl refl
          (replies-updated x v (update2 v.replies (suc s) p rest) s to (v.replies s to ++ (t ∷ []))
          ∙ ap₂ (λ (f : ℕ → ℕ → List (Reply (setup x))) (l : List (Reply (setup x))). update2 f s to l)
          (replies-updated x v v.replies (suc s) p rest) (map-append (reply_of x v) (v.replies s to) (t ∷ [])))
          refl refl refl refl refl)

      pub return-lower-full : x.Q ≤ length (v.replies s to) → shown x v words ≡ return_step (setup x) s p (shown x v words)
      unfolding shown answered
      return-lower-full h = rw (return-oldest, none, ← low, length-map (v.replies s to) (reply_of x v), le-ltb _ _ h)

    -- ---- the second tag is answered
    module _ (older : List Pair) (r : Pair) (younger : List Pair) (one : oldest_pair t (v.waits (suc s) p) ≡ found older r younger) (to : ℕ)
        (toIs : to ≡ position_on (v.fixed.path r.second) s) where
      here : 0 < tag_times x v r.second (waiting (suc s) p)
      here = pair-waiting x v (suc s) p t one

      down : to ≡ place (setup x) r.second s
      down = target r.second to (A.below r.second (waiting (suc s) p) here) toIs

      -- it leaves the one place where it stood
      left : (i j : ℕ) → count (λ (r : Pair). r.second) r.second (update2 v.waits (suc s) p (older ++ younger) i j) ≡ 0
      left = update2-ind v.waits (suc s) p (older ++ younger) (λ _ _ (l : List Pair). count (λ (r : Pair). r.second) r.second l ≡ 0)
          (let z : count (λ (r : Pair). r.second) r.second (older ++ (r ∷ younger)) ≤ 1 =
          rw (taken-pair t (v.waits (suc s) p) one) at (A.once r.second (waiting (suc s) p)) in
          rw (count-append (λ (r : Pair). r.second) r.second older younger)
          (omega (arith, same-yes r.second, rw (count-append (λ (r : Pair). r.second) r.second older (r ∷ younger)) at z)))
          (λ i j n. A.elsewhere r.second (waiting (suc s) p) (waiting i j) here (wait-elsewhere i j (suc s) p n))

      -- what the second tag carries once it is answered
      abbrev c : Words
      c = valued (v.carried r.second) (applied (operation_in (v.carried r.second)) (v.carried t).first)

      elsewhere : (w : Where) → w ≢ waiting (suc s) p → tag_times x v r.second w ≡ 0
      elsewhere w n = A.elsewhere r.second (waiting (suc s) p) w here n

      pub return-splits : length (v.replies s to) < x.Q →
          shown x (with_waits (with_replies (with_carried v r.second c) s to (v.replies s to ++ (r.second ∷ []))) (suc s) p (older ++ younger)) words ≡
          return_step (setup x) s p (shown x v words)
      unfolding shown answered
      return-splits room =
          rw (return-oldest, one, ← down, length-map (v.replies s to) (reply_of x v), lt-ltb _ _ room)
          (state-eq _ _
          (messages-framed x v r.second c (tags_at x v) (λ i j. elsewhere (requested i j) (other-kind _ _ (λ e. omega arith))))
          (records-framed x v r.second c (update2 v.waits (suc s) p (older ++ younger)) left
          ∙ records-updated x v v.waits (suc s) p (older ++ younger)
          ∙ ap (update2 (λ (i j : ℕ). map (record_of x v) (v.waits i j)) (suc s) p) (map-append (record_of x v) older younger))
          (replies-pushed x v r.second c (λ i j. elsewhere (replying i j) (other-kind _ _ (λ e. omega arith))) s to)
          refl refl
          (answers-kept x v r.second c (unanswered x v A r.second (waiting (suc s) p) here (other-kind _ _ (λ e. omega arith))))
          refl refl)

      pub return-split-full : x.Q ≤ length (v.replies s to) → shown x v words ≡ return_step (setup x) s p (shown x v words)
      unfolding shown answered
      return-split-full h = rw (return-oldest, one, ← down, length-map (v.replies s to) (reply_of x v), le-ltb _ _ h)
