-- The machine's arrival, said of tags, and what `Node::append` and `Node::arrive` promise of it.
use Prim.Native.Nat.{ℕ, suc, ◌+◌, ◌-◌, ◌≤◌, ◌<◌}
use mathlib.Core.Path.{◌≡◌, refl, sym, ◌∙◌, ap, ap₂, subst}
use mathlib.Core.Logic.{◌≢◌}
use mathlib.Core.List.{List, [], ◌∷◌, ◌++◌, map}
use Rattle.std.proofs.Common.{Option, None, Some}
use native.Mathlib.Omega.{arith}
use lib.ListN.{length, length-append, length-map}
use borrow.Author.Tests.{lt-ltb, le-ltb}
use Rattle.lists.specs.Search.{Found, absent, found}
use Rattle.lists.specs.Table.{down_from}
use Rattle.lists.specs.Count.{same, count}
use Rattle.lists.specs.Inner.Pair.{Pair}
use Rattle.lists.proofs.Tests.{clash}
use Rattle.lists.proofs.Below.{length-below, length-down}
use Rattle.lists.proofs.Tables.{update_same, update_other}
use Rattle.lists.proofs.Counts.{same-yes, count-append}
use Rattle.lists.proofs.Maps.{map-append, count_map}
use Rattle.words.specs.Inner.Digits.{byte_in}
use Rattle.operation.specs.Operation as operations
use Rattle.operation.specs.declared.Operation.{Operation}
use Rattle.queue.specs.Inner.Queue.{tags_of, pair_in, pairs_of, HeldTags, HeldPairs}
use Rattle.queue.specs.declared.Tags.{Tags}
use Rattle.queue.specs.declared.Pairs.{Pairs}
use Rattle.view.specs.Inner.View.{View, with_carried, operation_in}
use Rattle.store.specs.Inner.Layout.{size}
use Rattle.store.specs.Inner.Memory.{view, Becomes}
use Rattle.machine.specs.Setup.{Message}
use Rattle.machine.specs.Arrival as machine
use Rattle.shown.specs.Inner.Network.{Network, setup}
use Rattle.shown.specs.Inner.Shown.{message_of, record_of}
use Rattle.shown.proofs.Carried.{messages-kept, records-kept}
use Rattle.node.specs.Inner.Node.{HeldNode, node_in, ApartAt, youngest_tag, found_in, AppendedTo, ArrivedAt}
use Rattle.node.specs.declared.Node.{Node}
use Rattle.node.specs.declared.Arrived.{Arrived}
use Rattle.node.specs.declared.Outcome.TheVariants.{Merged, Appended, Refused}
use Rattle.node.proofs.Laws.{operation-carried, youngest-message, youngest-splits}

-- ---- one outcome is not another
appended-unmerged : Appended ≢ Merged
appended-unmerged e = clash (cc)

refused-unmerged : Refused ≢ Merged
refused-unmerged e = clash (cc)

appended-unrefused : Appended ≢ Refused
appended-unrefused e = clash (cc)

-- ---- one more at the end
one-more-tag : (l k : Tags) (t : ℕ) → tags_of l ≡ tags_of k ++ (t ∷ []) → l.len ≡ suc k.len
one-more-tag l k t e =
    omega (arith, ap (length {A = ℕ}) e, length-append (tags_of k) (t ∷ []), length-down l.len (byte_in l.items), length-down k.len (byte_in k.items))

one-more-pair : (l k : Pairs) (p : Pair) → pairs_of l ≡ pairs_of k ++ (p ∷ []) → l.len ≡ suc k.len
one-more-pair l k p e =
    omega (
      arith,
      ap (length {A = Pair}) e,
      length-append (pairs_of k) (p ∷ []),
      length-below l.len (pair_in l.firsts l.seconds),
      length-below k.len (pair_in k.firsts k.seconds),
    )

-- ---- appending, by its cases
module _ (x : Network) (v : View) (n : Node) where
  length-queue : length (map (message_of x v) (tags_of n.queue)) ≡ n.queue.len
  length-queue = length-map (tags_of n.queue) (message_of x v) ∙ length-down n.queue.len (byte_in n.queue.items)

  length-waiting : length (map (record_of x v) (pairs_of n.waiting)) ≡ n.waiting.len
  length-waiting = length-map (pairs_of n.waiting) (record_of x v) ∙ length-below n.waiting.len (pair_in n.waiting.firsts n.waiting.seconds)

module _ {n : Node} {t q : ℕ} (held : HeldNode n) where
  pub append-room : n.queue.len < q → {queue : Tags} → tags_of queue ≡ tags_of n.queue ++ (t ∷ []) → HeldTags queue →
      AppendedTo n t q (record { node = record { queue = queue; waiting = n.waiting }; outcome = Appended })
  unfolding machine.append
  append-room room {queue} e h = record {
    held = record { queue = h; waiting = held.waiting };
    appends = λ x v Q. rw (length-queue x v n, lt-ltb _ _ (subst (λ r. n.queue.len < r) (sym Q) room), e, map-append);
    unmerged = appended-unmerged;
    waiting_stays = refl;
    longer = λ _. one-more-tag queue n.queue t e;
    refusal = λ z. absurd (appended-unrefused z);
  }

  pub append-full : q ≤ n.queue.len → AppendedTo n t q (record { node = n; outcome = Refused })
  unfolding machine.append
  append-full full = record {
    held = held;
    appends = λ x v Q. rw (length-queue x v n, le-ltb _ _ (subst (λ r. r ≤ n.queue.len) (sym Q) full));
    unmerged = refused-unmerged;
    waiting_stays = refl;
    longer = λ z. absurd (appended-unrefused (sym z));
    refusal = λ _. refl;
  }

-- ---- an arrival, by its cases
module _ (x : Network) (v : View) (n : Node) (t : ℕ) where
  abbrev Arrives : machine.Arrival (setup x) → Type 0
  Arrives a = machine.arrive (setup x) (node_in x v n) (message_of x v t) ≡ a

  abbrev Appends : Type 0
  Appends = Arrives (machine.append (setup x) (node_in x v n) (message_of x v t))

  -- a full wait buffer: no merge, whatever is found
  arrive-full : x.W ≤ n.waiting.len → Appends
  unfolding machine.arrive machine.meet machine.combine
  arrive-full full = met (machine.youngest (setup x) (v.fixed.address t) (map (message_of x v) (tags_of n.queue)))
    where
      combined : (older : List (Message (setup x))) (f : Message (setup x)) (younger : List (Message (setup x))) (o : Option Operation) →
          machine.combine (setup x) (node_in x v n) (message_of x v t) older f younger o ≡ machine.append (setup x) (node_in x v n) (message_of x v t)
      combined older f younger None = refl
      combined older f younger (Some o) = rw (length-waiting x v n, le-ltb _ _ full)

      met : (f : Found (Message (setup x))) →
          machine.meet (setup x) (node_in x v n) (message_of x v t) f ≡ machine.append (setup x) (node_in x v n) (message_of x v t)
      met absent = refl
      met (found older f younger) = combined older f younger ((setup x).merge f.operation (operation_in (v.carried t)))

  arrive-alone : absent ≡ youngest_tag v.fixed.address (v.fixed.address t) (tags_of n.queue) → Appends
  unfolding machine.arrive machine.meet
  arrive-alone e = rw (youngest-message, ← e)

  module _ (older : List ℕ) (u : ℕ) (younger : List ℕ)
      (f : found older u younger ≡ youngest_tag v.fixed.address (v.fixed.address t) (tags_of n.queue)) where
    arrive-never : None ≡ operations.merged (operation_in (v.carried u)) (operation_in (v.carried t)) → Appends
    unfolding machine.arrive machine.meet machine.combine
    arrive-never e = rw (youngest-message, ← f, ← e)

    arrive-combined : (o : Operation) → Some o ≡ operations.merged (operation_in (v.carried u)) (operation_in (v.carried t)) → n.waiting.len < x.W →
        Arrives (machine.merged (record {
          queue = map (message_of x v) older ++ (record { tag = u; address = v.fixed.address u; operation = o } ∷ map (message_of x v) younger);
          waiting = map (record_of x v) (pairs_of n.waiting) ++ (record { first = u; second = t; operation = operation_in (v.carried u) } ∷ []);
        }))
    unfolding machine.arrive machine.meet machine.combine
    arrive-combined o e r = rw (youngest-message, ← f, ← e, length-waiting x v n, lt-ltb _ _ r)

-- ---- what `arrive` promises, by the way taken
module _ {n : Node} {m : List ℕ} {t q : ℕ} (sized : length m ≡ size) {r : Arrived} (a : AppendedTo n t q r) where
  appended-arrives : {w : ℕ} → ((x : Network) → x.W ≡ w → Appends x (view m) n t) → ArrivedAt n (view m) t q w m r
  appended-arrives h = record {
    sized = sized;
    held = a.held;
    arrives = λ x Q W. h x W ∙ a.appends x (view m) Q;
    changes = refl;
    unmerged = λ _. refl;
    others = λ _ _ _. refl;
    longer = a.longer;
    recorded = λ e. absurd (a.unmerged e);
    queue-stays = λ e. absurd (a.unmerged e);
    waiting_stays = λ _. a.waiting_stays;
    refusal = a.refusal;
  }

  pub full-arrives : (w : ℕ) → w ≤ n.waiting.len → ArrivedAt n (view m) t q w m r
  full-arrives w full = appended-arrives (λ x W. arrive-full x (view m) n t (subst (λ r. r ≤ n.waiting.len) (sym W) full))

  pub alone-arrives : {w : ℕ} → absent ≡ youngest_tag (view m).fixed.address ((view m).fixed.address t) (tags_of n.queue) → ArrivedAt n (view m) t q w m r
  alone-arrives e = appended-arrives (λ x W. arrive-alone x (view m) n t e)

-- ---- the merge: u's operation is the merged one, and t takes the one that u had
abbrev replaced : View → ℕ → Operation → View
replaced v u o = with_carried v u (operations.words_of o)

abbrev exchanged : View → ℕ → ℕ → Operation → View
exchanged v u t o = replaced (replaced v u o) t (operation_in (v.carried u))

abbrev times : ℕ → List ℕ → ℕ
times a tags = count (λ (u : ℕ). u) a tags

module _ (n : Node) (v : View) (t u : ℕ) (older younger : List ℕ) (o : Operation) (apart : ApartAt t (tags_of n.queue) (pairs_of n.waiting))
    (queue-is : tags_of n.queue ≡ older ++ (u ∷ younger)) where
  -- each tag stands once among them all
  once : (a : ℕ) → same t a + ((times a older + (same u a + times a younger)) + count (λ (r : Pair). r.second) a (pairs_of n.waiting)) ≤ 1
  once a =
      let seconds : List ℕ = map (λ (r : Pair). r.second) (pairs_of n.waiting) in
      let all : times a (t ∷ ((older ++ (u ∷ younger)) ++ seconds)) ≤ 1 = subst (λ (l : List ℕ). times a (t ∷ (l ++ seconds)) ≤ 1) queue-is (apart a) in
      omega (
        arith,
        all,
        count-append (λ (u : ℕ). u) a (older ++ (u ∷ younger)) seconds,
        count-append (λ (u : ℕ). u) a older (u ∷ younger),
        count_map (λ (r : Pair). r.second) (λ (u : ℕ). u) a (pairs_of n.waiting),
      )

  two : u ≢ t
  two e = let z : same u t ≡ 1 = subst (λ a. same u a ≡ 1) e (same-yes u) in omega (arith, z, once t, same-yes t)

  -- lists in which neither of the two stands show what they showed
  messages-stay : (x : Network) (l : List ℕ) → times t l ≡ 0 → times u l ≡ 0 → map (message_of x (exchanged v u t o)) l ≡ map (message_of x v) l
  messages-stay x l a b = messages-kept x (replaced v u o) t _ l a ∙ messages-kept x v u _ l b

  records-stay : (x : Network) → map (record_of x (exchanged v u t o)) (pairs_of n.waiting) ≡ map (record_of x v) (pairs_of n.waiting)
  records-stay x =
      records-kept x (replaced v u o) t _ (pairs_of n.waiting) (omega (arith, once t, same-yes t))
      ∙ records-kept x v u _ (pairs_of n.waiting) (omega (arith, once u, same-yes u))

  older-carries : operation_in ((exchanged v u t o).carried u) ≡ o
  older-carries = rw (update_other (replaced v u o).carried t _ two, update_same v.carried u _, operation-carried)

  arriving-carries : operation_in ((exchanged v u t o).carried t) ≡ operation_in (v.carried u)
  arriving-carries = rw (update_same (replaced v u o).carried t _, operation-carried)

  other-carries : (a : ℕ) → a ≢ t → times a (tags_of n.queue) ≡ 0 → (exchanged v u t o).carried a ≡ v.carried a
  other-carries a e h =
      let z : times a (older ++ (u ∷ younger)) ≡ 0 = subst (λ (l : List ℕ). times a l ≡ 0) queue-is h in
      let d : a ≢ u = λ e.
      (let s : same u a ≡ 1 = subst (λ b. same u b ≡ 1) (sym e) (same-yes u) in
      omega (arith, s, z, count-append (λ (u : ℕ). u) a older (u ∷ younger))) in
      rw (update_other (replaced v u o).carried t _ e, update_other v.carried u _ d)

  -- "replace its operation by the merged one, keep its tag and place"
  queue-after : (x : Network) → map (message_of x (exchanged v u t o)) (tags_of n.queue) ≡
      map (message_of x v) older ++ (record { tag = u; address = v.fixed.address u; operation = o } ∷ map (message_of x v) younger)
  queue-after x =
      rw (
        queue-is,
        map-append,
        messages-stay x older (omega (arith, once t, same-yes t)) (omega (arith, once u, same-yes u)),
        messages-stay x younger (omega (arith, once t, same-yes t)) (omega (arith, once u, same-yes u)),
        older-carries,
      )

  -- "add a wait record at the end"
  waiting-after : (x : Network) (waiting : Pairs) → pairs_of waiting ≡ pairs_of n.waiting ++ (record { first = u; second = t } ∷ []) →
      map (record_of x (exchanged v u t o)) (pairs_of waiting) ≡
      map (record_of x v) (pairs_of n.waiting) ++ (record { first = u; second = t; operation = operation_in (v.carried u) } ∷ [])
  waiting-after x waiting longer = rw (longer, map-append, records-stay x, arriving-carries)

-- ---- the tag u is read where the youngest match is found, and what it and t carry is read
pub record Met (n : Node) (m : List ℕ) (t i u : ℕ) (before arriving : Operation) : Type 0 where
  pub place : found_in n.queue (Some i) ≡ youngest_tag (view m).fixed.address ((view m).fixed.address t) (tags_of n.queue)
  pub read : u ≡ byte_in n.queue.items i
  pub before-is : before ≡ operation_in ((view m).carried u)
  pub arriving-is : arriving ≡ operation_in ((view m).carried t)

module _ {n : Node} {m : List ℕ} {t i u : ℕ} {before arriving : Operation} (M : Met n m t i u before arriving) where
  older : List ℕ
  older = down_from (n.queue.len - suc i) (λ j. byte_in n.queue.items (suc i + j))

  younger : List ℕ
  younger = down_from i (byte_in n.queue.items)

  found-is : found older u younger ≡ youngest_tag (view m).fixed.address ((view m).fixed.address t) (tags_of n.queue)
  unfolding older younger
  found-is = rw M.read M.place

  queue-is : tags_of n.queue ≡ older ++ (u ∷ younger)
  queue-is = youngest-splits (view m).fixed.address ((view m).fixed.address t) (tags_of n.queue) found-is

  pub never-arrives : {q w : ℕ} {r : Arrived} → length m ≡ size → AppendedTo n t q r → None ≡ operations.merged before arriving → ArrivedAt n (view m) t q w m r
  never-arrives sized a e =
      appended-arrives sized a (λ x W. arrive-never x (view m) n t older u younger found-is (rw (M.before-is, M.arriving-is) at e))

  module _ (held : HeldNode n) (apart : ApartAt t (tags_of n.queue) (pairs_of n.waiting)) (w : ℕ) (room : n.waiting.len < w)
      {o : Operation} (e : Some o ≡ operations.merged before arriving)
      {m₁ m₂ : List ℕ} (b₁ : Becomes m₁ (with_carried (view m) u (operations.words_of o))) (b₂ : Becomes m₂ (with_carried (view m₁) t (operations.words_of before))) where
    holds : view m₂ ≡ exchanged (view m) u t o
    holds = b₂.holds ∙ ap₂ (λ (v : View) (f : Operation). replaced v t f) b₁.holds M.before-is

    pub merged-arrives : {q : ℕ} {waiting : Pairs} → pairs_of waiting ≡ pairs_of n.waiting ++ (record { first = u; second = t } ∷ []) → HeldPairs waiting →
        ArrivedAt n (view m) t q w m₂ (record { node = record { queue = n.queue; waiting = waiting }; outcome = Merged })
    merged-arrives {waiting = waiting} longer fits = record {
      sized = b₂.sized;
      held = record { queue = held.queue; waiting = fits };
      arrives = λ x Q W.
          rw (holds, queue-after n (view m) t u older younger o apart queue-is x, waiting-after n (view m) t u older younger o apart queue-is x waiting longer)
          (arrive-combined x (view m) n t older u younger found-is o (rw (M.before-is, M.arriving-is) at e) (subst (λ r. n.waiting.len < r) (sym W) room));
      changes = rw holds;
      unmerged = λ z. absurd (z refl);
      others = λ a d z. ap (λ (v : View). v.carried a) holds ∙ other-carries n (view m) t u older younger o apart queue-is a d z;
      longer = λ z. absurd (appended-unmerged (sym z));
      recorded = λ _. one-more-pair waiting n.waiting _ longer;
      queue-stays = λ _. refl;
      waiting_stays = λ z. absurd (appended-unmerged (sym z));
      refusal = λ z. absurd (refused-unmerged (sym z));
    }
