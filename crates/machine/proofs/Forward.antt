-- The invariant is kept where the oldest message of a queue goes to the end of the queue one level up.
use Prim.Native.Nat.{ℕ, suc, ◌+◌, ◌*◌, ◌<◌}
use mathlib.Core.Path.{◌≡◌, refl, sym, ◌∙◌, ap, subst}
use mathlib.Core.Logic.{◌≢◌}
use mathlib.Core.List.{List, [], ◌∷◌, ◌++◌, append-nil}
use native.Mathlib.Decide.{ℕ_discrete}
use native.Mathlib.Omega.{arith}
use Rattle.lists.specs.Search.{All, nil, cons}
use Rattle.lists.specs.Table.{update, update2}
use Rattle.lists.specs.Count.{Distinct}
use Rattle.lists.proofs.Tests.{by_cases}
use Rattle.lists.proofs.Every.{all_head, all_tail, all_map, all_append}
use Rattle.lists.proofs.Tables.{update_same, update2-same, update2-level, update2-position, update2-ind, update2-idle}
use Rattle.lists.proofs.Counts.{distinct_head, distinct_tail, distinct_append}
use Rattle.lists.proofs.Stacks.{concat-append, stack, stack-onward}
use Rattle.machine.specs.Setup.{Setup, Message, WaitRecord, Reply, place}
use Rattle.machine.specs.Arrival.{records_of}
use Rattle.machine.specs.State.{State, with_requests, with_waits}
use Rattle.machine.specs.Inner.Lawful.{Lawful}
use Rattle.machine.proofs.Labels.{relabel}
use Rattle.machine.proofs.Records.{records-none}
use Rattle.machine.proofs.Tags.{message_tag, reply_tag}
use Rattle.machine.proofs.Tree.{in_order, tree_of, tree-onward}
use Rattle.machine.proofs.Moves.{after_append}
use Rattle.machine.proofs.Invariant.{Invariant, RequestedAt, segment, kept, kept_append, kept-far, links}
use Rattle.machine.proofs.Invariant.{waiting-relabel, collected-relabel, far-waits, far-replies, other-requests}

-- ---- the oldest message of a queue
module _ (S : Setup) (words : ℕ → S.Word) (places : ℕ → ℕ) (st : State S) (I : Invariant S words places st)
    (s p : ℕ) (m : Message S) (rest : List (Message S)) (is : st.requests s p ≡ m ∷ rest) where
  pub oldest : RequestedAt S places st.waits s p m
  oldest = all_head (rw is at (I.requested s p))

  pub oldest-rest : All (λ (y : Message S). y.tag ≢ m.tag) rest
  oldest-rest = distinct_head (message_tag S) m rest (rw is at (I.requested_once s p))

  pub oldest-requests : (j q : ℕ) → ¬ ((j ≡ s) × (q ≡ p)) → All (λ (y : Message S). y.tag ≢ m.tag) (st.requests j q)
  oldest-requests = other-requests S words places st I m.tag s p oldest.0 oldest.1.0

  pub oldest-waits : (j q : ℕ) → All (λ (r : WaitRecord S). r.second ≢ m.tag) (st.waits j q)
  oldest-waits j q = far-waits S words places st I m.tag (4 * s) oldest.0 j q (omega arith)

  pub oldest-replies : (j q : ℕ) → All (λ (r : Reply S). r.tag ≢ m.tag) (st.replies j q)
  oldest-replies j q = far-replies S words places st I m.tag (4 * s) oldest.0 j q (omega arith)

  -- no record for it one level up, so its tree is the same there
  none-onward : records_of S m.tag (st.waits (suc s) (place S m.tag (suc s))) ≡ []
  none-onward = records-none S m.tag (all_map (λ r h e. omega (arith, h.1.1.0, oldest.0, ap places e)) (I.waiting (suc s) (place S m.tag (suc s))))

  pub same-tree : tree_of S st.waits (suc s) m.tag ≡ tree_of S st.waits s m.tag
  same-tree = tree-onward S st.waits s m.tag none-onward

-- ---- it goes to the end of the next queue
module _ (S : Setup) (law : Lawful S) (words : ℕ → S.Word) (places : ℕ → ℕ) (st : State S) (I : Invariant S words places st)
    (s p : ℕ) (m : Message S) (rest : List (Message S)) (is : st.requests s p ≡ m ∷ rest) (lt : s < S.k) where
  open S use {k, position}

  abbrev p' : ℕ
  p' = place S m.tag (suc s)

  abbrev front : RequestedAt S places st.waits s p m
  front = oldest S words places st I s p m rest is

  abbrev tree-same : tree_of S st.waits (suc s) m.tag ≡ tree_of S st.waits s m.tag
  tree-same = same-tree S words places st I s p m rest is

  -- the state after it, the wait buffers as they were
  abbrev after : State S
  after = with_requests S (update2 (update2 st.requests s p rest) (suc s) p' (st.requests (suc s) p' ++ (m ∷ []))) st

  pub after_is : after ≡ after_append S st s p m rest
  after_is i = with_waits S (sym (update2-idle st.waits (suc s) p') i) after

  far : (e a j : ℕ) → position e a j ≢ place S m.tag j → kept S e a (in_order S (tree_of S st.waits j m.tag)) ≡ []
  far e a j = kept-far S law st.waits (links S words places st I) e a j m.tag

  forward-line : (e a : ℕ) → stack (segment S after e a) k ≡ stack (segment S st e a) k
  forward-line e a =
      let a₁ : s ≢ suc s = omega arith in
      let a₂ : suc s ≢ s = omega arith in
      let own = in_order S (tree_of S st.waits s m.tag) in
      stack-onward (segment S st e a) (segment S after e a) s (kept S e a own)
      (λ i n n'. rw (update2-level, update2-level))
      (by_cases (ℕ_discrete (position e a s) p)
      (λ (z : position e a s ≡ p). rw (update2-level, z, update2-same, is, kept_append S))
      (λ (n : position e a s ≢ p). rw (far e a s (λ z. n (z ∙ front.1.0)), update2-level, update2-position)))
      (by_cases (ℕ_discrete (position e a (suc s)) p')
      (λ (z : position e a (suc s) ≡ p'). rw (z, update2-same, concat-append, kept_append S, tree-same, append-nil own))
      (λ (n : position e a (suc s) ≢ p'). rw (← tree-same, far e a (suc s) n, update2-position, update2-level, append-nil)))
      k lt

  forward-after : Invariant S words (update places m.tag (4 * suc s)) after
  forward-after = record {
    requested = update2-ind _ _ _ _ (λ j q l. All (RequestedAt S (update places m.tag (4 * suc s)) st.waits j q) l)
        (all_append (relabel (message_tag S) places m.tag (4 * suc s) (4 * suc s) (I.requested (suc s) _)
        (oldest-requests S words places st I s p m rest is (suc s) _ (omega arith)))
        (cons (update_same places m.tag (4 * suc s), (refl, rw tree-same front.1.1, (λ x. rw tree-same (front.1.2 x)), front.1.3)) nil))
        (λ j q n. update2-ind _ _ _ _ (λ j q l. All (RequestedAt S (update places m.tag (4 * suc s)) st.waits j q) l)
        (relabel (message_tag S) places m.tag (4 * s) (4 * suc s) (all_tail (rw is at (I.requested s p))) (oldest-rest S words places st I s p m rest is))
        (λ j q n'. relabel (message_tag S) places m.tag (4 * j) (4 * suc s) (I.requested j q)
        (oldest-requests S words places st I s p m rest is j q n')) j q);
    requested_once = update2-ind _ _ _ _ (λ j q l. Distinct (message_tag S) l)
        (distinct_append (message_tag S) _ m (I.requested_once (suc s) _) (oldest-requests S words places st I s p m rest is (suc s) _ (omega arith)))
        (λ j q n. update2-ind _ _ _ _ (λ j q l. Distinct (message_tag S) l) (distinct_tail (message_tag S) m rest (rw is at (I.requested_once s p)))
        (λ j q n'. I.requested_once j q) j q);
    waiting =
        λ j q. waiting-relabel S places m.tag (4 * suc s) j q (λ h. omega (arith, h, front.0)) (I.waiting j q)
        (oldest-waits S words places st I s p m rest is j q);
    waiting_once = I.waiting_once;
    replying = λ j q. relabel (reply_tag S) places m.tag (4 * j + 2) (4 * suc s) (I.replying j q) (oldest-replies S words places st I s p m rest is j q);
    replying_once = I.replying_once;
    collected = collected-relabel S words places st I m.tag (4 * suc s) (omega (arith, front.0));
    memory = I.memory;
    line = λ e a. rw (forward-line e a) (I.line e a);
  }

  pub forward-keeps : Invariant S words (update places m.tag (4 * suc s)) (after_append S st s p m rest)
  forward-keeps = subst (Invariant S words (update places m.tag (4 * suc s))) after_is forward-after
