-- What holds of every state that moves reach.
use Prim.Native.Nat.{ℕ, ◌+◌, ◌*◌, ◌≤◌}
use mathlib.Core.Path.{◌≡◌, refl, sym, ◌∙◌, ap, ap₂}
use mathlib.Core.Logic.{◌≢◌}
use mathlib.Core.Bool.{false}
use mathlib.Core.List.{List, [], ◌++◌, Memᴰ}
use mathlib.Core.Option.{some}
use native.Mathlib.Decide.{ℕ_discrete}
use native.Mathlib.Omega.{arith}
use lib.Dec.{eqb}
use borrow.Author.Tests.{eqb-true}
use Rattle.lists.specs.Choice.{both}
use Rattle.lists.specs.Search.{All, only}
use Rattle.lists.specs.Table.{update}
use Rattle.lists.specs.Count.{Distinct}
use Rattle.lists.proofs.Tests.{by_cases, test-cases}
use Rattle.lists.proofs.Every.{all_map, all-map2}
use Rattle.lists.proofs.Tables.{update_same, update_other}
use Rattle.lists.proofs.Searches.{only-append, only_none}
use Rattle.lists.proofs.Stacks.{concat, stack}
use Rattle.machine.specs.Setup.{Setup, Message, WaitRecord, Reply, place}
use Rattle.machine.specs.State.{State, tags_below}
use Rattle.machine.specs.Single.{run_singly, reads}
use Rattle.machine.specs.Inner.Lawful.{Lawful}
use Rattle.machine.proofs.Labels.{away}
use Rattle.machine.proofs.Tags.{message_tag, waiter_tag, reply_tag}
use Rattle.machine.proofs.Tree.{Waits, in_order, tree_of}
use Rattle.machine.proofs.Served.{run_on, Faithful, Served}
use Rattle.machine.proofs.Members.{Link, near}

-- ---- A place is a number: 4 s in the request queue of level s, 4 s + 1 second in a wait record there, 4 s + 2 in the reply queue there,
-- 3 collected. From level s up, but not waiting there:
abbrev pub Above : ℕ → ℕ → Type 0
Above s c = (4 * s ≤ c) × (c ≢ 4 * s + 1)

pub above-update : (places : ℕ → ℕ) (t v j c : ℕ) → (Above j (places t) → Above j v) → Above j (places c) → Above j (update places t v c)
above-update places t v j c f h = by_cases (ℕ_discrete c t)
    (λ (e : c ≡ t). rw (e, update_same) (f (rw e at h)))
    (λ (n : c ≢ t). rw (update_other places t v n) h)

module _ (S : Setup) where
  open S use {Word, apply, k, R, engine_of, address_of, position}

  -- ---- the requests of engine e to word a, of a list
  unfoldable pub kept : ℕ → ℕ → List ℕ → List ℕ
  kept e a = only (λ t. both (eqb (engine_of t) e) (eqb (address_of t) a))

  pub kept_append : (e a : ℕ) (xs ys : List ℕ) → kept e a (xs ++ ys) ≡ kept e a xs ++ kept e a ys
  unfolding kept
  kept_append e a = only-append (λ t. both (eqb (engine_of t) e) (eqb (address_of t) a))

  pub kept-none : (e a : ℕ) {xs : List ℕ} → All (λ t. ¬ ((engine_of t ≡ e) × (address_of t ≡ a))) xs → kept e a xs ≡ []
  unfolding kept
  kept-none e a h = only_none (λ t. both (eqb (engine_of t) e) (eqb (address_of t) a)) (all_map off h)
    where
      off : (t : ℕ) → ¬ ((engine_of t ≡ e) × (address_of t ≡ a)) → both (eqb (engine_of t) e) (eqb (address_of t) a) ≡ false
      off t n = test-cases (λ b. both b (eqb (address_of t) a) ≡ false) (eqb (engine_of t) e)
          (λ p. test-cases (λ b. b ≡ false) (eqb (address_of t) a)
          (λ q. absurd (n (eqb-true (engine_of t) e p, eqb-true (address_of t) a q))) (λ _. refl))
          (λ _. refl)

  -- ---- what holds
  -- a message stands on its path, has its request's address, and does what the requests of its tree do one after another
  abbrev pub Requested : Waits S → ℕ → ℕ → Message S → Type 0
  Requested waits s p m =
      (place S m.tag s ≡ p) × Faithful S (tree_of S waits s m.tag)
      × ((x : Word) → apply m.operation x ≡ run_on S (in_order S (tree_of S waits s m.tag)) x) × (m.address ≡ address_of m.tag)

  -- a wait record's two requests stand on their paths, and the first is further up
  abbrev pub Waiting : (ℕ → ℕ) → ℕ → ℕ → WaitRecord S → Type 0
  Waiting places s p r = Link S s p r × Above s (places r.first)

  -- a reply stands on its path, and all requests of its tree read what it brings them
  abbrev pub Replying : Waits S → List (Reply S) → ℕ → ℕ → Reply S → Type 0
  Replying waits log s p r = (place S r.tag s ≡ p) × Served S log (tree_of S waits s r.tag) r.value

  -- each at its place
  abbrev pub RequestedAt : (ℕ → ℕ) → Waits S → ℕ → ℕ → Message S → Type 0
  RequestedAt places waits s p m = (places m.tag ≡ 4 * s) × Requested waits s p m

  abbrev pub WaitingAt : (ℕ → ℕ) → ℕ → ℕ → WaitRecord S → Type 0
  WaitingAt places s p r = (places r.second ≡ 4 * s + 1) × Waiting places s p r

  abbrev pub ReplyingAt : (ℕ → ℕ) → Waits S → List (Reply S) → ℕ → ℕ → Reply S → Type 0
  ReplyingAt places waits log s p r = (places r.tag ≡ 4 * s + 2) × Replying waits log s p r

  -- the requests that the messages of a list at level s stand for
  abbrev pub listed : Waits S → ℕ → List (Message S) → List ℕ
  listed waits s = concat (λ (m : Message S). in_order S (tree_of S waits s m.tag))

  -- those of engine e to word a that stand at level s
  abbrev pub segment : State S → ℕ → ℕ → ℕ → List ℕ
  segment st e a s = kept e a (listed st.waits s (st.requests s (position e a s)))

  pub record Invariant (words : ℕ → Word) (places : ℕ → ℕ) (st : State S) : Type 0 where
    pub requested : (s p : ℕ) → All (RequestedAt places st.waits s p) (st.requests s p)
    pub requested_once : (s p : ℕ) → Distinct (message_tag S) (st.requests s p)
    pub waiting : (s p : ℕ) → All (WaitingAt places s p) (st.waits s p)
    pub waiting_once : (s p : ℕ) → Distinct (waiter_tag S) (st.waits s p)
    pub replying : (s p : ℕ) → All (ReplyingAt places st.waits (reads S st.order words) s p) (st.replies s p)
    pub replying_once : (s p : ℕ) → Distinct (reply_tag S) (st.replies s p)
    pub collected : (t : ℕ) (v : Word) → st.answers t ≡ some v → (places t ≡ 3) × Memᴰ (record { tag = t; value = v }) (reads S st.order words)
    pub memory : (a : ℕ) → st.words a ≡ run_singly S st.order words a
    -- the requests of one engine to one word: those in the list, then those under way from level k down, then the unissued, are all
    -- there are, in trace order
    pub line : (e a : ℕ) → kept e a st.order ++ stack (segment st e a) k ≡ kept e a (tags_below R)

  -- ---- laws that the moves share
  pub waiting-relabel : (places : ℕ → ℕ) (t v j q : ℕ) {xs : List (WaitRecord S)} → (Above j (places t) → Above j v)
      → All (WaitingAt places j q) xs → All (λ (r : WaitRecord S). r.second ≢ t) xs
      → All (WaitingAt (update places t v) j q) xs
  waiting-relabel places t v j q f h n = all-map2 (λ r k m. (update_other places t v m ∙ k.0, (k.1.0, above-update places t v j r.first f k.1.1))) h n

  module _ (words : ℕ → Word) (places : ℕ → ℕ) (st : State S) (I : Invariant words places st) where
    pub links : (s p : ℕ) → All (Link S s p) (st.waits s p)
    links s p = all_map (λ r h. h.1.0) (I.waiting s p)

    -- a request that is not collected goes to another place: what is collected stays so
    pub collected-relabel : (t v : ℕ) → places t ≢ 3 → (u : ℕ) (w : Word) → st.answers u ≡ some w
        → (update places t v u ≡ 3) × Memᴰ (record { tag = u; value = w }) (reads S st.order words)
    collected-relabel t v n u w e = let h = I.collected u w e in (update_other places t v (λ z. n (ap places (sym z) ∙ h.0)) ∙ h.0, h.1)

    -- a request with a place stands at no other place
    module _ (u c : ℕ) (at : places u ≡ c) where
      pub far-requests : (j q : ℕ) → c ≢ 4 * j → All (λ (y : Message S). y.tag ≢ u) (st.requests j q)
      far-requests j q n = away (message_tag S) places u (4 * j) (omega arith) (I.requested j q)

      pub far-waits : (j q : ℕ) → c ≢ 4 * j + 1 → All (λ (r : WaitRecord S). r.second ≢ u) (st.waits j q)
      far-waits j q n = away (waiter_tag S) places u (4 * j + 1) (omega arith) (I.waiting j q)

      pub far-replies : (j q : ℕ) → c ≢ 4 * j + 2 → All (λ (r : Reply S). r.tag ≢ u) (st.replies j q)
      far-replies j q n = away (reply_tag S) places u (4 * j + 2) (omega arith) (I.replying j q)

    -- a request in the request queue of level s, position p, stands in no other
    pub other-requests : (u s p : ℕ) → places u ≡ 4 * s → place S u s ≡ p → (j q : ℕ) → ¬ ((j ≡ s) × (q ≡ p))
        → All (λ (y : Message S). y.tag ≢ u) (st.requests j q)
    other-requests u s p at on j q n =
        all_map (λ y k e. let z : j ≡ s = omega (arith, k.0, ap places e) in n (z, sym k.1.0 ∙ ap₂ (place S) e z ∙ on)) (I.requested j q)

  module _ (law : Lawful S) (waits : Waits S) (ok : (s p : ℕ) → All (Link S s p) (waits s p)) (e a j t : ℕ) where
    -- no request of e to a stands in a tree elsewhere, nor in a tree of another word
    pub kept-far : position e a j ≢ place S t j → kept e a (in_order S (tree_of S waits j t)) ≡ []
    kept-far n = kept-none e a (all_map (λ u k h. n (ap₂ (λ x y. position x y j) (sym h.0) (sym h.1) ∙ k.1)) (near S law waits ok j t))

    pub kept_off : a ≢ address_of t → kept e a (in_order S (tree_of S waits j t)) ≡ []
    kept_off n = kept-none e a (all_map (λ u k h. n (sym h.1 ∙ k.0)) (near S law waits ok j t))
