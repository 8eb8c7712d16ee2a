-- What a write changes of the view: a part that stands in none of the regions of the write is kept.
use Prim.Native.Nat.{ℕ, ◌+◌, ◌*◌, ◌/◌, ◌≤◌, ◌<◌}
use mathlib.Core.Path.{◌≡◌, refl, sym, ap₂, ◌∙◌}
use mathlib.Core.Bool.{Bool, true, false}
use mathlib.Core.List.{List}
use native.Mathlib.Omega.{arith}
use borrow.Author.Tests.{leb-true}
use lib.Dec.{leb}
use lib.ListN.{length, get_or}
use Rattle.lists.specs.Choice.{choose, both}
use Rattle.lists.specs.Table.{list_below}
use Rattle.lists.proofs.Tests.{test-cases, both_true}
use Rattle.view.specs.Inner.View.{View}
use Rattle.store.specs.Inner.Layout.{size, at_k, at_q, at_w, at_count, at_every, at_answered, at_ordered, at_accesses, at_merges, at_rounds}
use Rattle.store.specs.Inner.Layout.{at_request_lengths, at_reply_lengths, at_wait_lengths}
use Rattle.store.specs.Inner.Layout.{at_order, at_requests, at_replies, at_firsts, at_seconds, at_heads, at_first_operands, at_second_operands}
use Rattle.store.specs.Inner.Memory.{word_at, column_at, marks_at, bytes_at, queues_at, requests_at, buffers_at, code_of, address_of, path_of}
use Rattle.store.specs.Inner.Memory.{after_of, fixed_in, carried_in, order_in, view, Becomes}
use Rattle.store.proofs.Grid.{grid-same}
use Rattle.store.proofs.Columns.{tags-same}
use Rattle.store.proofs.Held.{Reading, as_tags, as_requests, held_at, requests-held}

-- k is one of a number of words from a start on
abbrev pub In : ℕ → ℕ → ℕ → Type 0
In from size k = (from ≤ k) × (k < from + size)

-- no word changes but in two regions
abbrev pub Kept : ℕ → ℕ → ℕ → ℕ → List ℕ → List ℕ → Type 0
Kept a n b l m m' = (k : ℕ) → ¬ In a n k → ¬ In b l k → get_or m' k 0 ≡ get_or m k 0

-- ---- what is read in some regions alone

module _ (m m' : List ℕ) where
  -- no word of a region changes
  abbrev pub Still : ℕ → ℕ → Type 0
  Still from size = (k : ℕ) → In from size k → get_or m' k 0 ≡ get_or m k 0

  pub column-same : (from : ℕ) → Still from 256 → column_at from m' ≡ column_at from m
  column-same from e = tags-same 0 (λ t. get_or m (from + t) 0) (λ t. get_or m' (from + t) 0) (λ t l. e (from + t) (omega arith))

  pub marks-same : (from : ℕ) → Still from 4 → marks_at from m' ≡ marks_at from m
  marks-same from e = tags-same false _ _ (λ t l. rw (e (from + t / 64) (omega arith)))

  bytes_same : (from : ℕ) → Still from 32 → bytes_at from m' ≡ bytes_at from m
  bytes_same from e = tags-same 0 _ _ (λ t l. rw (e (from + t / 8) (omega arith)))

  held_same : (read : Reading) (lengths from : ℕ) → Still lengths 5 → Still from 80 → held_at read lengths from m' ≡ held_at read lengths from m
  held_same read lengths from e f = grid-same _ _ (λ s p a b. rw (e (lengths + s) (omega arith), f (from + (s * 16 + p)) (omega arith)))

  requests-same : Still at_request_lengths 5 → Still at_requests 80 → requests_at m' ≡ requests_at m
  requests-same e f = requests-held m' ∙ held_same as_requests at_request_lengths at_requests e f ∙ sym (requests-held m)

  buffers-same : (lengths from : ℕ) → Still lengths 5 → Still from 160 → buffers_at lengths from (from + 80) m' ≡ buffers_at lengths from (from + 80) m
  buffers-same lengths from e f =
      grid-same _ _ (λ s p a b. rw (e (lengths + s) (omega arith), f (from + (s * 16 + p)) (omega arith), f (from + 80 + (s * 16 + p)) (omega arith)))

  fixed_same : Still at_k 8 → Still at_heads 256 → fixed_in m' ≡ fixed_in m
  unfolding fixed_in
  fixed_same e f =
      let heads = column-same at_heads f in
      let every = marks-same at_every (λ k h. e k (omega arith)) in
      λ i. record {
        k = e at_k (omega arith) i;
        q = e at_q (omega arith) i;
        w = e at_w (omega arith) i;
        count = e at_count (omega arith) i;
        every = every i;
        address = λ t. address_of (heads i t);
        path = λ t. path_of (heads i t);
        after = λ t. after_of (heads i t);
      }

  carried_same : Still at_heads 768 → carried_in m' ≡ carried_in m
  unfolding carried_in
  carried_same e =
      let heads = column-same at_heads (λ k h. e k (omega arith)) in
      let firsts = column-same at_first_operands (λ k h. e k (omega arith)) in
      let seconds = column-same at_second_operands (λ k h. e k (omega arith)) in
      λ i t. record { code = code_of (heads i t); first = firsts i t; second = seconds i t }

  order_same : Still at_ordered 1 → Still at_order 32 → order_in m' ≡ order_in m
  unfolding order_in
  order_same e f = ap₂ (λ (n : ℕ) (g : ℕ → ℕ). list_below n g) (e at_ordered (omega arith)) (bytes_same at_order f)

-- ---- two regions have no word in common; of numerals this computes

abbrev pub apart : ℕ → ℕ → ℕ → ℕ → Bool
apart from size a n = choose (leb (from + size) a) true (leb (a + n) from)

apart-true : (from size a n k : ℕ) → apart from size a n ≡ true → In from size k → ¬ In a n k
apart-true from size a n k e h z = go (leb (from + size) a) refl e
  where
    go : (t : Bool) → leb (from + size) a ≡ t → choose t true (leb (a + n) from) ≡ true → ⊥
    go true f g = omega (arith, leb-true (from + size) a f)
    go false f g = omega (arith, leb-true (a + n) from g)

module _ (a n b l : ℕ) where
  -- a region that the two do not meet
  abbrev pub clear : ℕ → ℕ → Bool
  clear from size = both (apart from size a n) (apart from size b l)

  -- each part from one view where its regions are clear, from another where they are not
  abbrev pub mixed : View → View → View
  mixed v v' = record {
    fixed = choose (both (clear at_k 8) (clear at_heads 256)) v.fixed v'.fixed;
    carried = choose (clear at_heads 768) v.carried v'.carried;
    answered = choose (clear at_answered 4) v.answered v'.answered;
    requests = choose (both (clear at_request_lengths 5) (clear at_requests 80)) v.requests v'.requests;
    replies = choose (both (clear at_reply_lengths 5) (clear at_replies 80)) v.replies v'.replies;
    waits = choose (both (clear at_wait_lengths 5) (clear at_firsts 160)) v.waits v'.waits;
    order = choose (both (clear at_ordered 1) (clear at_order 32)) v.order v'.order;
    accesses = choose (clear at_accesses 1) v.accesses v'.accesses;
    merges = choose (clear at_merges 1) v.merges v'.merges;
    rounds = choose (clear at_rounds 1) v.rounds v'.rounds;
  }

  module _ (m m' : List ℕ) (kept : Kept a n b l m m') where
    same : (from size : ℕ) → clear from size ≡ true → Still m m' from size
    same from size c k h =
        let e = both_true (apart from size a n) (apart from size b l) c in
        kept k (apart-true from size a n k e.0 h) (apart-true from size b l k e.1 h)

    module _ {A : Type 0} (f : List ℕ → A) (from size : ℕ) where
      one : (Still m m' from size → f m' ≡ f m) → f m' ≡ choose (clear from size) (f m) (f m')
      one h = test-cases (λ c. f m' ≡ choose c (f m) (f m')) (clear from size) (λ e. h (same from size e)) (λ _. refl)

      two : (from' size' : ℕ) → (Still m m' from size → Still m m' from' size' → f m' ≡ f m) →
          f m' ≡ choose (both (clear from size) (clear from' size')) (f m) (f m')
      two from' size' h =
          test-cases (λ c. f m' ≡ choose c (f m) (f m')) (both (clear from size) (clear from' size'))
          (λ e. let g = both_true (clear from size) (clear from' size') e in h (same from size g.0) (same from' size' g.1)) (λ _. refl)

    word : (i : ℕ) → word_at i m' ≡ choose (clear i 1) (word_at i m) (word_at i m')
    word i = one (word_at i) i 1 (λ e. e i (omega arith))

    view-kept : view m' ≡ mixed (view m) (view m')
    unfolding view
    view-kept = λ i. record {
      fixed = two fixed_in at_k 8 at_heads 256 (fixed_same m m') i;
      carried = one carried_in at_heads 768 (carried_same m m') i;
      answered = one (marks_at at_answered) at_answered 4 (marks-same m m' at_answered) i;
      requests = two requests_at at_request_lengths 5 at_requests 80 (requests-same m m') i;
      replies = two (queues_at at_reply_lengths at_replies) at_reply_lengths 5 at_replies 80 (held_same m m' as_tags at_reply_lengths at_replies) i;
      waits = two (buffers_at at_wait_lengths at_firsts at_seconds) at_wait_lengths 5 at_firsts 160 (buffers-same m m' at_wait_lengths at_firsts) i;
      order = two order_in at_ordered 1 at_order 32 (order_same m m') i;
      accesses = word at_accesses i;
      merges = word at_merges i;
      rounds = word at_rounds i;
    }

    -- what the array holds, from the parts that the write meets
    pub becomes : {v : View} → length m' ≡ size → mixed (view m) (view m') ≡ v → Becomes m' v
    becomes s e = record { sized = s; holds = view-kept ∙ e }
