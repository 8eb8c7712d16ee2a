-- The invariant is kept where a second is answered, where a reply goes one level down, and where it is collected.
use Prim.Native.Nat.{ℕ, suc, ◌+◌, ◌*◌}
use mathlib.Core.Path.{◌≡◌, refl, sym, ◌∙◌, ap, ap₂}
use mathlib.Core.Logic.{◌≢◌}
use mathlib.Core.List.{List, [], ◌∷◌, ◌++◌, Memᴰ}
use mathlib.Core.Option.{Option, some}
use native.Mathlib.Decide.{ℕ_discrete}
use native.Mathlib.Omega.{arith}
use Rattle.lists.specs.Search.{All, nil, cons}
use Rattle.lists.specs.Table.{update, update2}
use Rattle.lists.specs.Count.{Distinct}
use Rattle.lists.proofs.Tests.{by_cases}
use Rattle.lists.proofs.Every.{all_head, all_tail, all_map, all-map2, all_append, all_left, all_right}
use Rattle.lists.proofs.Tables.{update_same, update_other, update2-ind}
use Rattle.lists.proofs.Counts.{distinct_head, distinct_tail, distinct_append, distinct-drop, distinct-middle}
use Rattle.lists.proofs.Stacks.{concat-eq, stack, stack_same}
use Rattle.machine.specs.Setup.{Setup, Message, WaitRecord, Reply, place}
use Rattle.machine.specs.Arrival.{records_of}
use Rattle.machine.specs.State.{State}
use Rattle.machine.specs.Steps.{split, lowered, collect_oldest}
use Rattle.machine.specs.Single.{reads}
use Rattle.machine.proofs.Labels.{relabel}
use Rattle.machine.proofs.Records.{none-records}
use Rattle.machine.proofs.Tags.{message_tag, waiter_tag, reply_tag}
use Rattle.machine.proofs.Tree.{in_order, tree_of, tree-onward, gone-below, gone-other}
use Rattle.machine.proofs.Served.{gone-second, gone-first}
use Rattle.machine.proofs.Invariant.{Invariant, Replying, RequestedAt, WaitingAt, ReplyingAt, segment, kept}
use Rattle.machine.proofs.Invariant.{waiting-relabel, collected-relabel, far-requests, far-waits, far-replies}

module _ (S : Setup) (words : ℕ → S.Word) (places : ℕ → ℕ) (st : State S) (I : Invariant S words places st) where
  open S use {Word, apply, k, position}

  -- what each request of the order list reads
  abbrev log : List (Reply S)
  log = reads S st.order words

  -- ---- the oldest reply of a queue
  module _ (s p : ℕ) (t : Reply S) (rest : List (Reply S)) (is : st.replies s p ≡ t ∷ rest) where
    pub oldest-reply : ReplyingAt S places st.waits log s p t
    oldest-reply = all_head (rw is at (I.replying s p))

    reply-rest : All (λ (y : Reply S). y.tag ≢ t.tag) rest
    reply-rest = distinct_head (reply_tag S) t rest (rw is at (I.replying_once s p))

    reply-replies : (j q : ℕ) → ¬ ((j ≡ s) × (q ≡ p)) → All (λ (y : Reply S). y.tag ≢ t.tag) (st.replies j q)
    reply-replies j q n =
        all_map
        (λ y h e. let z : j ≡ s = omega (arith, h.0, oldest-reply.0, ap places e) in n (z, sym h.1.0 ∙ ap₂ (place S) e z ∙ oldest-reply.1.0))
        (I.replying j q)

  -- ---- a second of a wait buffer
  module _ (s p : ℕ) (older : List (WaitRecord S)) (r : WaitRecord S) (younger : List (WaitRecord S))
      (parts : st.waits (suc s) p ≡ older ++ (r ∷ younger)) where
    buffer : All (WaitingAt S places (suc s) p) (older ++ (r ∷ younger))
    buffer = rw parts at (I.waiting (suc s) p)

    pub second : WaitingAt S places (suc s) p r
    second = all_head (all_right older buffer)

  -- ---- it is answered
  module _ (s p : ℕ) (t : Reply S) (rest : List (Reply S)) (older : List (WaitRecord S)) (r : WaitRecord S) (younger : List (WaitRecord S))
      (is : st.replies (suc s) p ≡ t ∷ rest) (parts : st.waits (suc s) p ≡ older ++ (r ∷ younger)) (of : r.first ≡ t.tag) where
    -- the place of the second from now on
    abbrev c : ℕ
    c = 4 * s + 2

    abbrev reply : ReplyingAt S places st.waits log (suc s) p t
    reply = oldest-reply (suc s) p t rest is

    abbrev after : ℕ → ℕ → List (WaitRecord S)
    after = update2 st.waits (suc s) p (older ++ younger)

    abbrev others : All (WaitingAt S places (suc s) p) (older ++ (r ∷ younger))
    others = buffer s p older r younger parts

    abbrev behind : WaitingAt S places (suc s) p r
    behind = second s p older r younger parts

    first : places r.first ≡ 4 * suc s + 2
    first = ap places of ∙ reply.0

    tree-elsewhere : (j u : ℕ) → u ≢ r.first → tree_of S after j u ≡ tree_of S st.waits j u
    tree-elsewhere =
        gone-other S st.waits s p older r younger parts (λ j q. far-waits S words places st I r.first (4 * suc s + 2) first j q (omega arith))

    still : (j q : ℕ) (y : Message S) → RequestedAt S (update places r.second c) st.waits j q y → y.tag ≢ r.first
        → RequestedAt S (update places r.second c) after j q y
    still j q y h n = (h.0, (h.1.0, rw (tree-elsewhere j y.tag n) h.1.1, (λ x. rw (tree-elsewhere j y.tag n) (h.1.2 x)), h.1.3))

    still-reply : (j q : ℕ) (y : Reply S) → ReplyingAt S places st.waits log j q y → y.tag ≢ r.second
        → ReplyingAt S (update places r.second c) after log j q y
    still-reply j q y h n = (
      update_other places r.second c n ∙ h.0,
      (
        h.1.0,
        by_cases (ℕ_discrete y.tag r.first)
            (λ (e : y.tag ≡ r.first). let i : j ≡ suc s = omega (arith, h.0, first, ap places e) in
            rw (e, i) (gone-first S st.waits s p older r younger parts behind.1.0.0 log y.value (rw (e, i) at h.1.1)))
            (λ (n : y.tag ≢ r.first). rw (tree-elsewhere j y.tag n) h.1.1),
      ),
    )

    stand : (j q : ℕ) → All (ReplyingAt S (update places r.second c) after log j q) (st.replies j q)
    stand j q = all-map2 (still-reply j q) (I.replying j q) (far-replies S words places st I r.second (4 * suc s + 1) behind.0 j q (omega arith))

    -- the second's own tree is served with what its record gives
    answer : Replying S after log s (place S r.second s) (record { tag = r.second; value = apply r.operation t.value })
    answer = (
      refl,
      rw (gone-below S st.waits s p (older ++ younger) s r.second (omega arith))
          (gone-second S st.waits s p older r younger parts behind.1.0.0 log t.value (rw of reply.1.1)),
    )

    -- it waits nowhere else
    lone : (j q : ℕ) → ¬ ((j ≡ suc s) × (q ≡ p)) → All (λ (y : WaitRecord S). y.second ≢ r.second) (st.waits j q)
    lone j q n =
        all_map
        (λ y h e. let i : j ≡ suc s = omega (arith, h.0, behind.0, ap places e) in n (i, sym h.1.0.1 ∙ ap₂ (place S) e i ∙ behind.1.0.1))
        (I.waiting j q)

    -- the first tag stands in no request queue
    not-requested : (i q : ℕ) → All (λ (y : Message S). y.tag ≢ r.first) (st.requests i q)
    not-requested i q = far-requests S words places st I r.first (4 * suc s + 2) first i q (omega arith)

    answer-line : (e a : ℕ) → stack (segment S (split S st s p t (older ++ younger) r (place S r.second s)) e a) k ≡ stack (segment S st e a) k
    answer-line e a = stack_same (segment S st e a) (segment S (split S st s p t (older ++ younger) r (place S r.second s)) e a) k
        (λ i l. ap (kept S e a) (concat-eq _ _ (all_map (λ y n. ap (in_order S) (tree-elsewhere i y.tag n)) (not-requested i (position e a i)))))

    pub answer_keeps : Invariant S words (update places r.second (4 * s + 2)) (split S st s p t (older ++ younger) r (place S r.second s))
    answer_keeps = record {
      requested = λ j q. all-map2 (still j q)
          (relabel (message_tag S) places r.second (4 * j) c (I.requested j q)
          (far-requests S words places st I r.second (4 * suc s + 1) behind.0 j q (omega arith)))
          (far-requests S words places st I r.first (4 * suc s + 2) first j q (omega arith));
      requested_once = I.requested_once;
      waiting = update2-ind _ _ _ _ (λ j q l. All (WaitingAt S (update places r.second c) j q) l)
          (waiting-relabel S places r.second c (suc s) p (λ h. omega (arith, h, behind.0))
          (all_append (all_left older (r ∷ younger) others) (all_tail (all_right older others)))
          (distinct-middle (waiter_tag S) older r younger (rw parts at (I.waiting_once (suc s) p))))
          (λ j q n. waiting-relabel S places r.second c j q (λ h. omega (arith, h, behind.0)) (I.waiting j q) (lone j q n));
      waiting_once = update2-ind _ _ _ _ (λ j q l. Distinct (waiter_tag S) l)
          (distinct-drop (waiter_tag S) older r younger (rw parts at (I.waiting_once (suc s) p))) (λ j q n. I.waiting_once j q);
      replying = update2-ind _ _ _ _ (λ j q l. All (ReplyingAt S (update places r.second c) after log j q) l)
          (all_append (stand s (place S r.second s)) (cons (update_same places r.second c, answer) nil)) (λ j q n. stand j q);
      replying_once = update2-ind _ _ _ _ (λ j q l. Distinct (reply_tag S) l)
          (distinct_append (reply_tag S) _ (record { tag = r.second; value = apply r.operation t.value }) (I.replying_once s _)
          (far-replies S words places st I r.second (4 * suc s + 1) behind.0 s _ (omega arith))) (λ j q n. I.replying_once j q);
      collected = collected-relabel S words places st I r.second c (omega (arith, behind.0));
      memory = I.memory;
      line = λ e a. rw (answer-line e a) (I.line e a);
    }

  -- ---- a reply goes one level down
  module _ (s p : ℕ) (t : Reply S) (rest : List (Reply S)) (is : st.replies (suc s) p ≡ t ∷ rest)
      (free : records_of S t.tag (st.waits (suc s) p) ≡ []) where
    abbrev above : ReplyingAt S places st.waits log (suc s) p t
    above = oldest-reply (suc s) p t rest is

    -- no record of level s + 1 has it first
    no-first : (q : ℕ) → All (λ (y : WaitRecord S). y.first ≢ t.tag) (st.waits (suc s) q)
    no-first q = by_cases (ℕ_discrete q p)
        (λ (e : q ≡ p). rw e (none-records S t.tag (st.waits (suc s) p) free))
        (λ (n : q ≢ p). all_map (λ y h e. n (sym h.1.0.0 ∙ ap (λ (u : ℕ). place S u (suc s)) e ∙ above.1.0)) (I.waiting (suc s) q))

    still-waiting : (j q : ℕ) (y : WaitRecord S) → WaitingAt S places j q y → y.first ≢ t.tag
        → WaitingAt S (update places t.tag (4 * s + 2)) j q y
    still-waiting j q y h n =
        let m : y.second ≢ t.tag = (λ e. omega (arith, h.0, above.0, ap places e)) in
        (update_other places t.tag (4 * s + 2) m ∙ h.0, (h.1.0, rw (update_other places t.tag (4 * s + 2) n) h.1.1))

    pub lower-keeps : Invariant S words (update places t.tag (4 * s + 2)) (lowered S st s p t rest (place S t.tag s))
    lower-keeps = record {
      requested = λ j q.
          relabel (message_tag S) places t.tag (4 * j) (4 * s + 2) (I.requested j q)
          (far-requests S words places st I t.tag (4 * suc s + 2) above.0 j q (omega arith));
      requested_once = I.requested_once;
      waiting = λ j q. by_cases (ℕ_discrete j (suc s))
          (λ (e : j ≡ suc s). all-map2 (still-waiting j q) (I.waiting j q) (rw e (no-first q)))
          (λ (n : j ≢ suc s).
          waiting-relabel S places t.tag (4 * s + 2) j q (λ h. omega (arith, h, above.0)) (I.waiting j q)
          (far-waits S words places st I t.tag (4 * suc s + 2) above.0 j q (omega arith)));
      waiting_once = I.waiting_once;
      replying = update2-ind _ _ _ _ (λ j q l. All (ReplyingAt S (update places t.tag (4 * s + 2)) st.waits log j q) l)
          (all_append (relabel (reply_tag S) places t.tag (4 * s + 2) (4 * s + 2) (I.replying s _) (reply-replies (suc s) p t rest is s _ (omega arith)))
          (cons (update_same places t.tag (4 * s + 2), (refl, rw (tree-onward S st.waits s t.tag (rw above.1.0 free)) at above.1.1)) nil))
          (λ j q n. update2-ind _ _ _ _ (λ j q l. All (ReplyingAt S (update places t.tag (4 * s + 2)) st.waits log j q) l)
          (relabel (reply_tag S) places t.tag (4 * suc s + 2) (4 * s + 2) (all_tail (rw is at (I.replying (suc s) p))) (reply-rest (suc s) p t rest is))
          (λ j q n'. relabel (reply_tag S) places t.tag (4 * j + 2) (4 * s + 2) (I.replying j q) (reply-replies (suc s) p t rest is j q n')) j q);
      replying_once = update2-ind _ _ _ _ (λ j q l. Distinct (reply_tag S) l)
          (distinct_append (reply_tag S) _ t (I.replying_once s _) (reply-replies (suc s) p t rest is s _ (omega arith)))
          (λ j q n. update2-ind _ _ _ _ (λ j q l. Distinct (reply_tag S) l)
          (distinct_tail (reply_tag S) t rest (rw is at (I.replying_once (suc s) p))) (λ j q n'. I.replying_once j q) j q);
      collected = collected-relabel S words places st I t.tag (4 * s + 2) (omega (arith, above.0));
      memory = I.memory;
      line = I.line;
    }

  -- ---- a reply is collected
  module _ (e : ℕ) (t : Reply S) (rest : List (Reply S)) (is : st.replies 0 e ≡ t ∷ rest) where
    abbrev here : ReplyingAt S places st.waits log 0 e t
    here = oldest-reply 0 e t rest is

    read : Memᴰ (record { tag = t.tag; value = t.value }) log
    unfolding tree_of
    read = here.1.1

    abbrev answers : ℕ → Option Word
    answers = update st.answers t.tag (some t.value)

    collected-after : (u : ℕ) (v : Word) → answers u ≡ some v →
        (update places t.tag 3 u ≡ 3) × Memᴰ (record { tag = u; value = v }) log
    collected-after u v h = by_cases (ℕ_discrete u t.tag)
        (λ (z : u ≡ t.tag).
        let w : some t.value ≡ some v = sym (update_same st.answers t.tag (some t.value)) ∙ ap answers (sym z) ∙ h in
        let x : t.value ≡ v = cc in
        (rw (z, update_same), rw (z, ← x) read))
        (λ (n : u ≢ t.tag).
        let g = I.collected u v (sym (update_other st.answers t.tag (some t.value) n) ∙ h) in
        (update_other places t.tag 3 n ∙ g.0, g.1))

    pub collect-keeps : Invariant S words (update places t.tag 3) (collect_oldest S st e (t ∷ rest))
    unfolding collect_oldest
    collect-keeps = record {
      requested = λ j q.
          relabel (message_tag S) places t.tag (4 * j) 3 (I.requested j q) (far-requests S words places st I t.tag 2 here.0 j q (omega arith));
      requested_once = I.requested_once;
      waiting = λ j q.
          waiting-relabel S places t.tag 3 j q (λ h. omega (arith, h, here.0)) (I.waiting j q)
          (far-waits S words places st I t.tag 2 here.0 j q (omega arith));
      waiting_once = I.waiting_once;
      replying = update2-ind _ _ _ _ (λ j q l. All (ReplyingAt S (update places t.tag 3) st.waits log j q) l)
          (relabel (reply_tag S) places t.tag (4 * 0 + 2) 3 (all_tail (rw is at (I.replying 0 e))) (reply-rest 0 e t rest is))
          (λ j q n. relabel (reply_tag S) places t.tag (4 * j + 2) 3 (I.replying j q) (reply-replies 0 e t rest is j q n));
      replying_once = update2-ind _ _ _ _ (λ j q l. Distinct (reply_tag S) l)
          (distinct_tail (reply_tag S) t rest (rw is at (I.replying_once 0 e))) (λ j q n. I.replying_once j q);
      collected = collected-after;
      memory = I.memory;
      line = I.line;
    }
