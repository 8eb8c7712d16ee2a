-- The invariant is kept where the oldest message of a queue is merged into a message one level up.
use Prim.Native.Nat.{ℕ, suc, ◌+◌, ◌*◌, ◌<◌}
use mathlib.Core.Path.{◌≡◌, refl, sym, ◌∙◌, ap}
use mathlib.Core.Logic.{◌≢◌}
use mathlib.Core.List.{List, ◌∷◌, ◌++◌, append_assoc, append-nil}
use native.Mathlib.Decide.{ℕ_discrete}
use native.Mathlib.Omega.{arith}
use Rattle.lists.specs.Search.{All, nil, cons}
use Rattle.lists.specs.Table.{update, update2}
use Rattle.lists.specs.Count.{Distinct}
use Rattle.lists.proofs.Tests.{by_cases}
use Rattle.lists.proofs.Every.{all_head, all_tail, all_map, all-map2, all_append, all_left, all_right}
use Rattle.lists.proofs.Tables.{update_same, update_other, update2-same, update2-level, update2-position, update2-ind}
use Rattle.lists.proofs.Counts.{distinct_tail, distinct_append, distinct-replace, distinct-middle}
use Rattle.lists.proofs.Stacks.{concat-append, concat-eq, all-concat, stack, stack-onward}
use Rattle.machine.specs.Setup.{Setup, Message, WaitRecord, Reply, place}
use Rattle.machine.specs.State.{State}
use Rattle.machine.specs.Single.{reads}
use Rattle.machine.specs.Inner.Lawful.{Lawful}
use Rattle.machine.proofs.Labels.{relabel}
use Rattle.machine.proofs.Tags.{message_tag, waiter_tag, reply_tag}
use Rattle.machine.proofs.Tree.{Tree, in_order, tree_of, tree-join, tree-other}
use Rattle.machine.proofs.Served.{run_on-append}
use Rattle.machine.proofs.Members.{Link, near}
use Rattle.machine.proofs.Moves.{after_merge}
use Rattle.machine.proofs.Invariant.{Invariant, Requested, Replying, Above, RequestedAt, WaitingAt, listed, segment, kept, kept_append, kept-none}
use Rattle.machine.proofs.Invariant.{kept-far, kept_off, links, above-update, waiting-relabel, collected-relabel, far-waits, far-replies, other-requests}
use Rattle.machine.proofs.Forward.{oldest, oldest-rest, oldest-requests, oldest-waits, oldest-replies, same-tree}

module _ (S : Setup) (law : Lawful S) (words : ℕ → S.Word) (places : ℕ → ℕ) (st : State S) (I : Invariant S words places st)
    (s p : ℕ) (m : Message S) (rest : List (Message S)) (is : st.requests s p ≡ m ∷ rest) (lt : s < S.k)
    (older : List (Message S)) (f : Message S) (younger : List (Message S)) (o : S.Operation)
    (parts : st.requests (suc s) (place S m.tag (suc s)) ≡ older ++ (f ∷ younger))
    (same : f.address ≡ m.address) (last : All (λ (y : Message S). y.address ≢ m.address) younger)
    (applies : (x : S.Word) → S.apply o x ≡ S.apply m.operation (S.apply f.operation x)) where
  open S use {apply, k, engine_of, address_of, position}

  abbrev p' : ℕ
  p' = place S m.tag (suc s)

  -- the place of m from now on
  abbrev c : ℕ
  c = 4 * suc s + 1

  abbrev after : State S
  after = after_merge S st s p m rest older f younger o

  -- f with the merged operation, and the wait record
  abbrev into-now : Message S
  into-now = record { tag = f.tag; address = f.address; operation = o }

  abbrev saved : WaitRecord S
  saved = record { first = f.tag; second = m.tag; operation = f.operation }

  abbrev front : RequestedAt S places st.waits s p m
  front = oldest S words places st I s p m rest is

  abbrev linked : (j q : ℕ) → All (Link S j q) (st.waits j q)
  linked = links S words places st I

  -- ---- f, into which m goes
  queue : All (RequestedAt S places st.waits (suc s) p') (older ++ (f ∷ younger))
  queue = rw parts at (I.requested (suc s) p')

  into : RequestedAt S places st.waits (suc s) p' f
  into = all_head (all_right older queue)

  one_word : address_of f.tag ≡ address_of m.tag
  one_word = sym into.1.3 ∙ same ∙ front.1.3

  two : f.tag ≢ m.tag
  two e = omega (arith, into.0, front.0, ap places e)

  into-requests : (j q : ℕ) → ¬ ((j ≡ suc s) × (q ≡ p')) → All (λ (y : Message S). y.tag ≢ f.tag) (st.requests j q)
  into-requests = other-requests S words places st I f.tag (suc s) p' into.0 into.1.0

  into-rest : All (λ (y : Message S). y.tag ≢ f.tag) rest
  into-rest = all_tail (rw is at (into-requests s p (omega arith)))

  into-others : All (λ (y : Message S). y.tag ≢ f.tag) (older ++ younger)
  into-others = distinct-middle (message_tag S) older f younger (rw parts at (I.requested_once (suc s) p'))

  m-queue : All (λ (y : Message S). y.tag ≢ m.tag) (older ++ (f ∷ younger))
  m-queue = rw parts at (oldest-requests S words places st I s p m rest is (suc s) p' (omega arith))

  -- those behind f are of other words
  last-words : All (λ (y : Message S). address_of y.tag ≢ address_of m.tag) younger
  last-words = all-map2 (λ y h n e. n (h.1.3 ∙ e ∙ sym front.1.3)) (all_tail (all_right older queue)) last

  -- ---- the trees: f's has m's behind it, and no other changes
  tree-elsewhere : (j u : ℕ) → u ≢ f.tag → tree_of S after.waits j u ≡ tree_of S st.waits j u
  tree-elsewhere = tree-other S st.waits (suc s) p' saved
      (λ j q. far-waits S words places st I f.tag (4 * suc s) into.0 j q (omega arith))

  tree-joined : tree_of S after.waits (suc s) f.tag ≡ Tree.join (tree_of S st.waits (suc s) f.tag) f.operation (tree_of S st.waits s m.tag)
  tree-joined = tree-join S st.waits s p' saved into.1.0

  still : (j q : ℕ) (y : Message S) → Requested S st.waits j q y → y.tag ≢ f.tag → Requested S after.waits j q y
  still j q y z i = (z.0, rw (tree-elsewhere j y.tag i) z.1, (λ x. rw (tree-elsewhere j y.tag i) (z.2 x)), z.3)

  stand : (j q : ℕ) {l : List (Message S)} → All (RequestedAt S places st.waits j q) l → All (λ (y : Message S). y.tag ≢ m.tag) l
      → All (λ (y : Message S). y.tag ≢ f.tag) l → All (RequestedAt S (update places m.tag c) after.waits j q) l
  stand j q h n k = all-map2 (λ y z i. (z.0, still j q y z.1 i)) (relabel (message_tag S) places m.tag (4 * j) c h n) k

  still-reply : (j q : ℕ) (r : Reply S) → Replying S st.waits (reads S st.order words) j q r → r.tag ≢ f.tag
      → Replying S after.waits (reads S st.order words) j q r
  still-reply j q r z i = (z.0, rw (tree-elsewhere j r.tag i) z.1)

  into-after : RequestedAt S (update places m.tag c) after.waits (suc s) p' into-now
  into-after = (
    update_other places m.tag c two ∙ into.0,
    (
      into.1.0,
      rw tree-joined (into.1.1, into.1.2, front.1.1),
      (λ x. rw (tree-joined, run_on-append S, applies x, ← into.1.2 x) (front.1.2 (apply f.operation x))),
      into.1.3,
    ),
  )

  -- ---- the wait records
  waits-stand : (j q : ℕ) → All (WaitingAt S (update places m.tag c) j q) (st.waits j q)
  waits-stand j q =
      waiting-relabel S places m.tag c j q (λ h. omega (arith, h, front.0)) (I.waiting j q) (oldest-waits S words places st I s p m rest is j q)

  first_above : Above (suc s) (update places m.tag c f.tag)
  first_above = above-update places m.tag c (suc s) f.tag (λ h. omega (arith, h, front.0)) (omega (arith, into.0))

  -- ---- the line: m's tree passes those behind f, which are of other words
  concat-elsewhere : (j : ℕ) {l : List (Message S)} → All (λ (y : Message S). y.tag ≢ f.tag) l → listed S after.waits j l ≡ listed S st.waits j l
  concat-elsewhere j h = concat-eq _ _ (all_map (λ y n. ap (in_order S) (tree-elsewhere j y.tag n)) h)

  -- m's own, and those behind f
  abbrev own : List ℕ
  own = in_order S (tree_of S st.waits s m.tag)

  abbrev behind : List ℕ
  behind = listed S st.waits (suc s) younger

  passes : (e a : ℕ) → kept S e a own ++ kept S e a behind ≡ kept S e a behind ++ kept S e a own
  passes e a = by_cases (ℕ_discrete a (address_of m.tag))
      (λ (z : a ≡ address_of m.tag). rw (kept-none S e a (all-concat _ (all_map (other_word z) last-words)), append-nil))
      (λ (n : a ≢ address_of m.tag). rw (kept_off S law st.waits linked e a s m.tag n, append-nil))
    where
      other_word : a ≡ address_of m.tag → (y : Message S) → address_of y.tag ≢ address_of m.tag
          → All (λ u. ¬ ((engine_of u ≡ e) × (address_of u ≡ a))) (in_order S (tree_of S st.waits (suc s) y.tag))
      other_word z y n = all_map (λ u k h. n (sym k.0 ∙ h.1 ∙ z)) (near S law st.waits linked (suc s) y.tag)

  -- the queues once m has left its own, and what stands before and behind f is listed as it was
  abbrev left_behind : ℕ → ℕ → List (Message S)
  left_behind = update2 st.requests s p rest

  older-same : listed S after.waits (suc s) older ≡ listed S st.waits (suc s) older
  older-same = concat-elsewhere (suc s) (all_left older younger into-others)

  younger-same : listed S after.waits (suc s) younger ≡ behind
  younger-same = concat-elsewhere (suc s) (all_right older into-others)

  merge-line : (e a : ℕ) → stack (segment S after e a) k ≡ stack (segment S st e a) k
  merge-line e a =
      let a₁ : s ≢ suc s = omega arith in
      let a₂ : suc s ≢ s = omega arith in
      stack-onward (segment S st e a) (segment S after e a) s (kept S e a own)
      (λ i n n'. rw (update2-level left_behind, update2-level st.requests)
      (ap (kept S e a) (concat-elsewhere i (into-requests i (position e a i) (λ z. n' z.0)))))
      (by_cases (ℕ_discrete (position e a s) p)
      (λ (z : position e a s ≡ p). rw (update2-level left_behind, z, update2-same st.requests, concat-elsewhere s into-rest, is, kept_append S))
      (λ (n : position e a s ≢ p).
      rw (kept-far S law st.waits linked e a s m.tag (λ z. n (z ∙ front.1.0)), update2-level left_behind, update2-position st.requests)
      (ap (kept S e a) (sym (concat-elsewhere s (into-requests s (position e a s) (λ z. a₁ z.0)))))))
      (by_cases (ℕ_discrete (position e a (suc s)) p')
      (λ (z : position e a (suc s) ≡ p').
      rw (z, update2-same left_behind, parts, concat-append, concat-append, older-same, younger-same, tree-joined)
      (simp (kept_append S, append_assoc) (rw (passes e a))))
      (λ (n : position e a (suc s) ≢ p').
      let far = kept-far S law st.waits linked e a (suc s) m.tag n in
      rw (← same-tree S words places st I s p m rest is, far, update2-position left_behind, update2-level st.requests, append-nil)
      (ap (kept S e a) (concat-elsewhere (suc s) (into-requests (suc s) (position e a (suc s)) (λ z. n z.1))))))
      k lt

  pub merge_keeps : Invariant S words (update places m.tag c) after
  merge_keeps = record {
    requested = update2-ind _ _ _ _ (λ j q l. All (RequestedAt S (update places m.tag c) after.waits j q) l)
        (all_append (stand (suc s) p' (all_left older _ queue) (all_left older _ m-queue) (all_left older younger into-others))
        (cons into-after (stand (suc s) p' (all_tail (all_right older queue)) (all_tail (all_right older m-queue)) (all_right older into-others))))
        (λ j q n. update2-ind _ _ _ _ (λ j q l. ¬ ((j ≡ suc s) × (q ≡ p')) → All (RequestedAt S (update places m.tag c) after.waits j q) l)
        (λ _. stand s p (all_tail (rw is at (I.requested s p))) (oldest-rest S words places st I s p m rest is) into-rest)
        (λ j q n' n''. stand j q (I.requested j q) (oldest-requests S words places st I s p m rest is j q n') (into-requests j q n'')) j q n);
    requested_once = update2-ind _ _ _ _ (λ j q l. Distinct (message_tag S) l)
        (distinct-replace (message_tag S) older f into-now younger refl (rw parts at (I.requested_once (suc s) p')))
        (λ j q n. update2-ind _ _ _ _ (λ j q l. Distinct (message_tag S) l)
        (distinct_tail (message_tag S) m rest (rw is at (I.requested_once s p))) (λ j q n'. I.requested_once j q) j q);
    waiting = update2-ind _ _ _ _ (λ j q l. All (WaitingAt S (update places m.tag c) j q) l)
        (all_append (waits-stand (suc s) p') (cons (update_same places m.tag c, ((into.1.0, refl, one_word), first_above)) nil))
        (λ j q n. waits-stand j q);
    waiting_once = update2-ind _ _ _ _ (λ j q l. Distinct (waiter_tag S) l)
        (distinct_append (waiter_tag S) _ saved (I.waiting_once (suc s) _) (oldest-waits S words places st I s p m rest is (suc s) _))
        (λ j q n. I.waiting_once j q);
    replying = λ j q. all-map2 (λ r z i. (z.0, still-reply j q r z.1 i))
        (relabel (reply_tag S) places m.tag (4 * j + 2) c (I.replying j q) (oldest-replies S words places st I s p m rest is j q))
        (far-replies S words places st I f.tag (4 * suc s) into.0 j q (omega arith));
    replying_once = I.replying_once;
    collected = collected-relabel S words places st I m.tag c (omega (arith, front.0));
    memory = I.memory;
    line = λ e a. rw (merge-line e a) (I.line e a);
  }
