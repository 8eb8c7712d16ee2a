-- What demand 3 asks of one moment follows from the invariant.
use Prim.Native.Nat.{ℕ, ◌+◌, ◌≤◌, ◌<◌}
use mathlib.Core.Path.{◌≡◌, refl, sym, ◌∙◌, ap}
use mathlib.Core.Bool.{Bool, true}
use mathlib.Core.List.{List, [], ◌∷◌, Memᴰ}
use mathlib.Core.Option.{Option, none, some}
use native.Mathlib.Omega.{arith}
use lib.ListN.{length}
use lib.Dec.{eqb}
use Rattle.lists.specs.Choice.{choose, both}
use Rattle.lists.specs.Search.{only}
use Rattle.lists.specs.Count.{count, same}
use Rattle.lists.proofs.Tests.{eqb-cases, test-clash}
use Rattle.lists.proofs.Every.{all_map}
use Rattle.lists.proofs.Below.{length-below}
use Rattle.lists.proofs.Counts.{same-no, count-append, itself, counted-all, no_longer}
use Rattle.lists.proofs.Stacks.{concat, stack, stack-count}
use Rattle.machine.specs.Setup.{Setup, Message, Reply, place}
use Rattle.machine.specs.State.{State, tags_below}
use Rattle.machine.specs.Run.{is_answered}
use Rattle.machine.specs.Single.{reads}
use Rattle.machine.specs.Order.{Ordered, Unissued}
use Rattle.machine.specs.Inner.Lawful.{Lawful}
use Rattle.machine.proofs.Tags.{message_tag}
use Rattle.machine.proofs.Tree.{tree_of}
use Rattle.machine.proofs.Served.{served-root}
use Rattle.machine.proofs.Singly.{reads-member}
use Rattle.machine.proofs.Invariant.{Invariant, kept, segment}
use Rattle.machine.proofs.Return.{oldest-reply}
use Rattle.machine.proofs.Progress.{Live}
use Rattle.machine.proofs.Start.{tags-once, tags-inside}
use Rattle.machine.proofs.Drain.{below-answered}

module _ (S : Setup) where
  open S use {Word, k, R, engine_of, address_of}

  -- t stands before ts in a list, and is kept where a test comes to b: u is counted as it stands there
  abbrev Listed : ℕ → ℕ → List ℕ → Bool → Type 0
  Listed u t ts b =
      let others = kept S (engine_of u) (address_of u) ts in
      count itself u (choose b (t ∷ others) others) ≡ same t u + count itself u ts

  -- a request is kept where its own engine and address are
  kept-count : (u : ℕ) (xs : List ℕ) → count itself u (kept S (engine_of u) (address_of u) xs) ≡ count itself u xs
  unfolding kept only
  kept-count u [] = refl
  kept-count u (t ∷ ts) =
      eqb-cases (λ b. Listed u t ts (both b (eqb (address_of t) (address_of u)))) (engine_of t) (engine_of u)
      (λ _. eqb-cases (Listed u t ts) (address_of t) (address_of u)
      (λ _. omega (arith, kept-count u ts)) (λ n. omega (arith, kept-count u ts, same-no (λ (e : t ≡ u). n (ap address_of e)))))
      (λ n. omega (arith, kept-count u ts, same-no (λ (e : t ≡ u). n (ap engine_of e))))

  tags-count : (u : ℕ) (l : List (Message S)) → count itself u (concat (λ (m : Message S). m.tag ∷ []) l) ≡ count (message_tag S) u l
  tags-count u [] = refl
  tags-count u (m ∷ l) = omega (arith, tags-count u l)

  module _ (words : ℕ → Word) (places : ℕ → ℕ) (st : State S) (I : Invariant S words places st) where
    -- every request of the trace stands in the order list, or in the line to it
    line-count : (u : ℕ) → count itself u st.order + count itself u (stack (segment S st (engine_of u) (address_of u)) k) ≡ count itself u (tags_below R)
    line-count u =
        let z = ap (count itself u) (I.line (engine_of u) (address_of u)) in
        omega (arith, kept-count u st.order, kept-count u (tags_below R), rw count-append at z)

    pub order-inside : (u : ℕ) → 1 ≤ count itself u st.order → u < R
    order-inside u h = tags-inside R u (omega (arith, line-count u))

    order-once : (u : ℕ) → count itself u st.order ≤ 1
    order-once u = omega (arith, line-count u, tags-once R u)

    pub order-length : length st.order ≤ R
    order-length = omega (arith, no_longer st.order (tags_below R) (λ u. omega (arith, line-count u)), length-below R itself)

    -- what is collected is in the list
    pub collected-member : (t : ℕ) (v : Word) → st.answers t ≡ some v → Memᴰ t st.order
    collected-member t v e = reads-member S _ st.order words (I.collected t v e).1

    answered-member : (t : ℕ) (o : Option Word) → st.answers t ≡ o → is_answered S o ≡ true → Memᴰ t st.order
    answered-member t none e h = test-clash h refl
    answered-member t (some v) e h = collected-member t v e

    -- what is about to be collected has no answer
    pub reply-unanswered : (e : ℕ) (r : Reply S) (rest : List (Reply S)) → st.replies 0 e ≡ r ∷ rest → st.answers r.tag ≡ none
    reply-unanswered e r rest is = go (st.answers r.tag) refl
      where
        go : (o : Option Word) → st.answers r.tag ≡ o → st.answers r.tag ≡ none
        go none h = h
        go (some v) h = absurd (omega (arith, (I.collected r.tag v h).0, (oldest-reply S words places st I 0 e r rest is).0))

    module _ (law : Lawful S) where
      segment-unissued : (u : ℕ) → count itself u (segment S st (engine_of u) (address_of u) 0) ≡ count (message_tag S) u (st.requests 0 (engine_of u))
      unfolding tree_of
      segment-unissued u =
          kept-count u _ ∙ tags-count u (st.requests 0 (place S u 0)) ∙ ap (λ (e : ℕ). count (message_tag S) u (st.requests 0 e)) (law.place-engine u)

      -- what is unissued is not in the list
      pub unissued-absent : (u : ℕ) → Unissued S st u → count itself u st.order ≡ 0
      unissued-absent u h = omega (arith, line-count u, tags-once R u, segment-unissued u, stack-count itself u (segment S st (engine_of u) (address_of u)) k)

      ordered : Ordered S words st
      unfolding kept
      ordered = record {
        distinct = order-once;
        issued = counted-all itself (λ t. _) st.order (λ t h. (order-inside t h, λ z. omega (arith, unissued-absent t z)));
        memory = λ a. sym (I.memory a);
        collected = λ t v e. (I.collected t v e).1;
        under_way = λ s p. all_map (λ r h. served-root S (reads S st.order words) st.waits s r.tag r.value h.1.1) (I.replying s p);
        as_issued = λ e a. (_, I.line e a);
        once = reply-unanswered;
        complete = λ h t l. answered-member t (st.answers t) refl (below-answered S st R h t l);
      }

-- of a state with moves left
pub live-ordered : (S : Setup) (words : ℕ → S.Word) → Lawful S → {n : ℕ} (st : State S) → Live S words st n → Ordered S words st
live-ordered S words law st L = ordered S words L.places st L.invariant law
