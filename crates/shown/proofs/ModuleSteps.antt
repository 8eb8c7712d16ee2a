-- The module step on the view is the machine's.
use Prim.Native.Nat.{ℕ, ◌≤◌, ◌<◌}
use mathlib.Core.Path.{◌≡◌, refl, sym, ap, ◌∙◌}
use mathlib.Core.List.{List, [], ◌∷◌, ◌++◌, map}
use native.Mathlib.Omega.{arith}
use lib.ListN.{length, length-map}
use borrow.Author.Tests.{lt-ltb, le-ltb}
use Rattle.lists.specs.Count.{count}
use Rattle.lists.specs.Table.{update, update2}
use Rattle.lists.proofs.Tables.{update2-ind}
use Rattle.lists.proofs.Counts.{same-yes}
use Rattle.operation.specs.Operation.{applied}
use Rattle.operation.specs.declared.Words.{Words}
use Rattle.view.specs.Inner.View.{View, with_requests, with_replies, with_carried, with_order, with_access, operation_in, valued}
use Rattle.machine.specs.Setup.{Message}
use Rattle.machine.specs.Steps.{serve_oldest, module_step}
use Rattle.machine.specs.Order.{requested, waiting, replying}
use Rattle.machine.specs.Inner.Sound.{Sound}
use Rattle.shown.specs.Inner.Network.{Network, setup, Fits}
use Rattle.shown.specs.Inner.Shown.{message_of, reply_of, tags_at, tags_for, shown}
use Rattle.shown.proofs.Apart.{Apart, tag_times, tags-apart, other-kind, request-elsewhere, oldest-requested, unanswered}
use Rattle.shown.proofs.Carried.{state-eq, tags-above, tags-replaced, messages-framed, messages-updated, records-framed, answers-kept, replies-pushed}
use Rattle.shown.proofs.Expansion.{stands-tags}

module _ (x : Network) (v : View) (words : ℕ → ℕ) where
  -- "Nothing happens if the reply queue is full"
  pub module-full : (p : ℕ) → x.Q ≤ length (v.replies x.k p) → shown x v words ≡ module_step (setup x) p (shown x v words)
  unfolding shown module_step serve_oldest
  module-full p h = go (map (message_of x v) (tags_at x v x.k p))
    where
      go : (l : List (Message (setup x))) → shown x v words ≡ serve_oldest (setup x) (shown x v words) p l
      go [] = refl
      go (m ∷ rest) = rw (length-map (v.replies x.k p) (reply_of x v), le-ltb _ _ h)

  -- ---- the oldest message is taken
  module _ (F : Fits x v.fixed) (S : Sound (setup x) (shown x v words)) (p t : ℕ) (rest : List ℕ) (is : v.requests x.k p ≡ t ∷ rest) where
    A : Apart x v
    A = tags-apart x v words S.one_place

    at-module : tags_at x v x.k p ≡ t ∷ rest
    at-module = tags-above x v x.k p F.ranges.k-least ∙ is

    here : 0 < tag_times x v t (requested x.k p)
    here = oldest-requested x v x.k p at-module

    -- it leaves the one place where it stood
    left : (i j : ℕ) → count (λ (u : ℕ). u) t (update2 (tags_at x v) x.k p rest i j) ≡ 0
    left = update2-ind (tags_at x v) x.k p rest (λ _ _ (l : List ℕ). count (λ (u : ℕ). u) t l ≡ 0)
        (let z : count (λ (u : ℕ). u) t (t ∷ rest) ≤ 1 = rw at-module at (A.once t (requested x.k p)) in omega (arith, same-yes t))
        (λ i j n. A.elsewhere t (requested x.k p) (requested i j) here (request-elsewhere i j x.k p n))

    pub module-shows : length (v.replies x.k p) < x.Q →
        shown x (with_requests (with_replies (with_carried (with_access (with_order v (tags_for v.fixed.path v.waits x.k t)))
        t (valued (v.carried t) (words (v.fixed.address t))))
        x.k p (v.replies x.k p ++ (t ∷ []))) x.k p rest)
        (update words (v.fixed.address t) (applied (operation_in (v.carried t)) (words (v.fixed.address t)))) ≡
        module_step (setup x) p (shown x v words)
    unfolding shown module_step serve_oldest
    module-shows room =
        let c : Words = valued (v.carried t) (words (v.fixed.address t)) in
        rw (at-module, length-map (v.replies x.k p) (reply_of x v), lt-ltb _ _ room)
        (state-eq _ _
        (ap (λ (f : ℕ → ℕ → List ℕ). λ (i j : ℕ). map (message_of x (with_carried v t c)) (f i j)) (tags-replaced x v x.k p rest F.ranges.k-least)
        ∙ messages-framed x v t c (update2 (tags_at x v) x.k p rest) left
        ∙ messages-updated x v (tags_at x v) x.k p rest)
        (records-framed x v t c v.waits (λ i j. A.elsewhere t (requested x.k p) (waiting i j) here (other-kind _ _ (λ e. omega arith))))
        (replies-pushed x v t c (λ i j. A.elsewhere t (requested x.k p) (replying i j) here (other-kind _ _ (λ e. omega arith))) x.k p)
        refl
        (ap (λ (l : List ℕ). v.order ++ l) (sym (stands-tags x v words F A x.k t (omega arith) (A.below t (requested x.k p) here))))
        (answers-kept x v t c (unanswered x v A t (requested x.k p) here (other-kind _ _ (λ e. omega arith))))
        refl refl)
