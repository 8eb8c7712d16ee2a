-- The invariant is kept where a module takes a message: the requests it stands for go to the end of the order list.
use Prim.Native.Nat.{ℕ, ◌+◌, ◌*◌}
use mathlib.Core.Path.{◌≡◌, sym, ◌∙◌, ap}
use mathlib.Core.Logic.{◌≢◌}
use mathlib.Core.List.Memᴰ
use mathlib.Core.List.{List, ◌∷◌, ◌++◌, append_assoc, Memᴰ}
use native.Mathlib.Decide.{ℕ_discrete}
use native.Mathlib.Omega.{arith}
use Rattle.lists.specs.Search.{All, nil, cons}
use Rattle.lists.specs.Table.{update}
use Rattle.lists.specs.Count.{Distinct}
use Rattle.lists.proofs.Tests.{by_cases}
use Rattle.lists.proofs.Every.{all_tail, all_map, all_append}
use Rattle.lists.proofs.Tables.{update_same, update_other, update2-same, update2-level, update2-position, update2-ind}
use Rattle.lists.proofs.Counts.{distinct_tail, distinct_append}
use Rattle.lists.proofs.Stacks.{stack, stack-leaves}
use Rattle.machine.specs.Setup.{Setup, Message, Reply}
use Rattle.machine.specs.State.{State}
use Rattle.machine.specs.Steps.{taken}
use Rattle.machine.specs.Single.{run_singly, reads}
use Rattle.machine.specs.Inner.Lawful.{Lawful}
use Rattle.machine.proofs.Labels.{relabel}
use Rattle.machine.proofs.Tags.{message_tag, reply_tag}
use Rattle.machine.proofs.Tree.{in_order, tree_of, stands-tree}
use Rattle.machine.proofs.Served.{reads_on, served-map, faithful-served}
use Rattle.machine.proofs.Singly.{singly-append, reads-append, singly-at, singly-elsewhere, reads_at}
use Rattle.machine.proofs.Members.{Link, near}
use Rattle.machine.proofs.Invariant.{Invariant, RequestedAt, ReplyingAt, Replying, segment, kept, kept_append, kept-far}
use Rattle.machine.proofs.Invariant.{waiting-relabel, links, collected-relabel}
use Rattle.machine.proofs.Forward.{oldest, oldest-rest, oldest-requests, oldest-waits, oldest-replies}

module _ (S : Setup) (law : Lawful S) (words : ℕ → S.Word) (places : ℕ → ℕ) (st : State S) (I : Invariant S words places st)
    (p : ℕ) (m : Message S) (rest : List (Message S)) (is : st.requests S.k p ≡ m ∷ rest) where
  open S use {apply, k, address_of, position}

  -- the place of m from now on
  abbrev c : ℕ
  c = 4 * k + 2

  abbrev front : RequestedAt S places st.waits k p m
  front = oldest S words places st I k p m rest is

  -- its request's address; what it does to the words
  abbrev address : ℕ
  address = address_of m.tag

  abbrev words_after : ℕ → S.Word
  words_after = update st.words m.address (apply m.operation (st.words m.address))

  abbrev linked : (j q : ℕ) → All (Link S j q) (st.waits j q)
  linked = links S words places st I

  -- ---- the order list grows by all requests that m stands for
  abbrev all : List ℕ
  all = in_order S (tree_of S st.waits k m.tag)

  order-grows : (taken S st p m rest).order ≡ st.order ++ all
  order-grows = ap (λ (l : List ℕ). st.order ++ l) (stands-tree S st.waits k m.tag)

  one_word : All (λ u. address_of u ≡ address) all
  one_word = all_map (λ u h. h.0) (near S law st.waits linked k m.tag)

  reads_more : reads S (st.order ++ all) words ≡ reads S st.order words ++ reads_on S (st.words address) all
  reads_more = rw (reads-append S, reads_at S address one_word (run_singly S st.order words), I.memory address)

  still : (r : Reply S) → Memᴰ r (reads S st.order words) → Memᴰ r (reads S (st.order ++ all) words)
  still r h = rw reads_more (Memᴰ.append_left _ h)

  read_more : (r : Reply S) → Memᴰ r (reads_on S (st.words address) all) → Memᴰ r (reads S (st.order ++ all) words)
  read_more r h = rw reads_more (Memᴰ.append_right (reads S st.order words) h)

  still-reply : (j q : ℕ) (r : Reply S) → Replying S st.waits (reads S st.order words) j q r
      → Replying S st.waits (reads S (st.order ++ all) words) j q r
  still-reply j q r h = (h.0, served-map S _ _ still (tree_of S st.waits j r.tag) r.value h.1)

  stand : (j q : ℕ) → All (ReplyingAt S (update places m.tag c) st.waits (reads S (st.order ++ all) words) j q) (st.replies j q)
  stand j q = all_map (λ r h. (h.0, still-reply j q r h.1))
      (relabel (reply_tag S) places m.tag (4 * j + 2) c (I.replying j q) (oldest-replies S words places st I k p m rest is j q))

  -- the new reply: m's tree is served with the old value
  reply : Replying S st.waits (reads S (st.order ++ all) words) k p (record { tag = m.tag; value = st.words m.address })
  reply = (
    front.1.0,
    rw front.1.3 (faithful-served S (tree_of S st.waits k m.tag) front.1.1 (st.words address) _ read_more),
  )

  -- ---- the words, and the line
  word_at : words_after address ≡ run_singly S (st.order ++ all) words address
  word_at = rw (front.1.3, update_same, singly-append S, singly-at S address one_word (run_singly S st.order words), ← I.memory address) (front.1.2 _)

  memory-after : (b : ℕ) → words_after b ≡ run_singly S (st.order ++ all) words b
  memory-after b = by_cases (ℕ_discrete b address)
      (λ (e : b ≡ address). rw e word_at)
      (λ (n : b ≢ address). update_other st.words m.address (apply m.operation (st.words m.address)) (λ z. n (z ∙ front.1.3))
      ∙ I.memory b ∙ sym (rw (singly-append S, singly-elsewhere S address b n one_word (run_singly S st.order words))))

  module-line : (e a : ℕ)
      → kept S e a (st.order ++ all) ++ stack (segment S (taken S st p m rest) e a) k ≡ kept S e a st.order ++ stack (segment S st e a) k
  module-line e a = rw (
    kept_append S,
    append_assoc,
    stack-leaves (segment S st e a) (segment S (taken S st p m rest) e a) k (kept S e a all)
        (λ i l. let n : i ≢ k = omega arith in rw update2-level)
        (by_cases (ℕ_discrete (position e a k) p)
        (λ (z : position e a k ≡ p). rw (z, update2-same, is, kept_append S))
        (λ (n : position e a k ≢ p). rw (kept-far S law st.waits linked e a k m.tag (λ z. n (z ∙ front.1.0)), update2-position))),
  )

  pub module-keeps : Invariant S words (update places m.tag (4 * k + 2)) (taken S st p m rest)
  module-keeps = record {
    requested = update2-ind _ _ _ _ (λ j q l. All (RequestedAt S (update places m.tag c) st.waits j q) l)
        (relabel (message_tag S) places m.tag (4 * k) c (all_tail (rw is at (I.requested k p))) (oldest-rest S words places st I k p m rest is))
        (λ j q n. relabel (message_tag S) places m.tag (4 * j) c (I.requested j q) (oldest-requests S words places st I k p m rest is j q n));
    requested_once = update2-ind _ _ _ _ (λ j q l. Distinct (message_tag S) l)
        (distinct_tail (message_tag S) m rest (rw is at (I.requested_once k p))) (λ j q n. I.requested_once j q);
    waiting = λ j q.
        waiting-relabel S places m.tag c j q (λ h. omega (arith, h, front.0)) (I.waiting j q) (oldest-waits S words places st I k p m rest is j q);
    waiting_once = I.waiting_once;
    replying = λ j q. rw order-grows
        (update2-ind _ _ _ _ (λ j q l. All (ReplyingAt S (update places m.tag c) st.waits (reads S (st.order ++ all) words) j q) l)
        (all_append (stand k p) (cons (update_same places m.tag c, reply) nil)) (λ j q n. stand j q) j q);
    replying_once = update2-ind _ _ _ _ (λ j q l. Distinct (reply_tag S) l)
        (distinct_append (reply_tag S) _ _ (I.replying_once k p) (oldest-replies S words places st I k p m rest is k p)) (λ j q n. I.replying_once j q);
    collected = λ t v e. let h = collected-relabel S words places st I m.tag c (omega (arith, front.0)) t v e in (h.0, rw order-grows (still _ h.1));
    memory = λ b. rw order-grows (memory-after b);
    line = λ e a. rw order-grows (module-line e a ∙ I.line e a);
  }
