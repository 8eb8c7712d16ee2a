-- What belongs to a tag: read, and written.
use Prim.Native.Nat.{ℕ, ◌+◌, ◌*◌, ◌/◌, ◌%◌, ◌^◌, ◌≤◌, ◌<◌}
use mathlib.Core.Path.{◌≡◌, refl, ap, subst, ◌∙◌}
use mathlib.Core.Logic.{◌≢◌}
use mathlib.Core.List.{List}
use native.Mathlib.Omega.{arith}
use borrow.Author.Tests.{lt-ltb}
use lib.ListN.{length, get_or, set, length-set}
use lib.Seq.{get_or-set_same, get_or-set_other}
use Rattle.lists.specs.Table.{update}
use Rattle.lists.proofs.Tables.{update_same, update_other, update-unique, update-idle, update-map}
use Rattle.operation.specs.declared.Operation.{Operation}
use Rattle.operation.specs.declared.Words.{Words}
use Rattle.operation.specs.Operation.{words_of}
use Rattle.operation.proofs.Laws.{code-byte}
use Rattle.view.specs.Inner.View.{valued, Fixed, with_fixed, with_carried, with_request, linked}
use Rattle.store.specs.Inner.Layout.{size, at_k, at_q, at_w, at_count, at_every, at_heads, at_first_operands, at_second_operands}
use Rattle.store.specs.Inner.Memory.{column_at, code_of, address_of, path_of, after_of, fixed_in, carried_in, view, Becomes}
use Rattle.store.proofs.Columns.{tags-changed}
use Rattle.store.proofs.Regions.{Kept, marks-same, becomes}
use Rattle.store.proofs.Heads.{Head, head-new, head-linked, head-coded}

-- ---- read

module _ (m : List ℕ) (t : ℕ) (l : t < 256) where
  abbrev pub head_at : ℕ
  head_at = get_or m (at_heads + t) 0

  pub address-here : (view m).fixed.address t ≡ address_of head_at
  unfolding view fixed_in
  address-here = rw (lt-ltb t 256 l)

  pub path-here : (view m).fixed.path t ≡ path_of head_at
  unfolding view fixed_in
  path-here = rw (lt-ltb t 256 l)

  pub after-here : (view m).fixed.after t ≡ after_of head_at
  unfolding view fixed_in
  after-here = rw (lt-ltb t 256 l)

  pub carried_here : (view m).carried t ≡ record { code = code_of head_at; first = get_or m (at_first_operands + t) 0; second = get_or m (at_second_operands + t) 0 }
  unfolding view carried_in
  carried_here = rw (lt-ltb t 256 l)

-- ---- written: the head and the operands of one tag

-- the head and the operands that stand by the tag t now; all other words are as they were
pub record Written (m m' : List ℕ) (t h f s : ℕ) : Type 0 where
  pub sized : length m' ≡ size
  pub head : get_or m' (at_heads + t) 0 ≡ h
  pub first : get_or m' (at_first_operands + t) 0 ≡ f
  pub second : get_or m' (at_second_operands + t) 0 ≡ s
  pub away : (k : ℕ) → k ≢ at_heads + t → k ≢ at_first_operands + t → k ≢ at_second_operands + t → get_or m' k 0 ≡ get_or m k 0

-- of each tag its address, path and next request
abbrev pub headed : Fixed → ℕ → ℕ → ℕ → ℕ → Fixed
headed f t address path after = record {
  k = f.k;
  q = f.q;
  w = f.w;
  count = f.count;
  every = f.every;
  address = update f.address t address;
  path = update f.path t path;
  after = update f.after t after;
}

module _ (m m' : List ℕ) (t h f s : ℕ) (l : t < 256) (w : Written m m' t h f s) where
  kept : Kept at_heads 768 at_heads 768 m m'
  kept k a b = w.away k (λ z. a (omega arith)) (λ z. a (omega arith)) (λ z. a (omega arith))

  heads : column_at at_heads m' ≡ update (column_at at_heads m) t h
  heads = tags-changed 0 _ _ t h l w.head (λ u a n. w.away (at_heads + u) (λ z. n (omega arith)) (λ z. omega arith) (λ z. omega arith))

  firsts : column_at at_first_operands m' ≡ update (column_at at_first_operands m) t f
  firsts = tags-changed 0 _ _ t f l w.first (λ u a n. w.away (at_first_operands + u) (λ z. omega arith) (λ z. n (omega arith)) (λ z. omega arith))

  seconds : column_at at_second_operands m' ≡ update (column_at at_second_operands m) t s
  seconds = tags-changed 0 _ _ t s l w.second (λ u a n. w.away (at_second_operands + u) (λ z. omega arith) (λ z. omega arith) (λ z. n (omega arith)))

  -- what is read of the heads
  read : (g : ℕ → ℕ) → (λ (u : ℕ). g (column_at at_heads m' u)) ≡ update (λ (u : ℕ). g (column_at at_heads m u)) t (g h)
  read g = (λ i u. g (heads i u)) ∙ update-map g (column_at at_heads m) t h

  fixed-is : (view m').fixed ≡ headed (view m).fixed t (address_of h) (path_of h) (after_of h)
  unfolding view fixed_in
  fixed-is =
      let low : (k : ℕ) → k < 8 → get_or m' k 0 ≡ get_or m k 0 = λ k a. kept k (λ z. omega arith) (λ z. omega arith) in
      λ i. record {
        k = low at_k (omega arith) i;
        q = low at_q (omega arith) i;
        w = low at_w (omega arith) i;
        count = low at_count (omega arith) i;
        every = marks-same m m' at_every (λ k z. low k (omega arith)) i;
        address = read (λ x. address_of x) i;
        path = read (λ x. path_of x) i;
        after = read (λ x. after_of x) i;
      }

  module _ (from x : ℕ) (e : column_at from m' ≡ update (column_at from m) t x) where
    here : column_at from m' t ≡ x
    here = ap (λ (g : ℕ → ℕ). g t) e ∙ update_same (column_at from m) t x

    there : {u : ℕ} → u ≢ t → column_at from m' u ≡ column_at from m u
    there {u} n = ap (λ (g : ℕ → ℕ). g u) e ∙ update_other (column_at from m) t x n

  carried-is : (view m').carried ≡ update (view m).carried t (record { code = code_of h; first = f; second = s })
  unfolding view carried_in
  carried-is =
      update-unique (carried_in m) (carried_in m') t _
      (λ i. record { code = code_of (here at_heads h heads i); first = here at_first_operands f firsts i; second = here at_second_operands s seconds i })
      (λ u n i. record { code = code_of (there at_heads h heads n i); first = there at_first_operands f firsts n i; second = there at_second_operands s seconds n i })

  pub tag-written : {code address path after : ℕ} → Head h code address path after →
      Becomes m' (with_carried (with_fixed (view m) (headed (view m).fixed t address path after)) t (record { code = code; first = f; second = s }))
  tag-written e = becomes at_heads 768 at_heads 768 m m' kept w.sized (rw (fixed-is, carried-is, e.address_is, e.path_is, e.after_is, e.code_is))

-- ---- as the code writes them

pub code_below : (f : Operation) (x : Words) → x ≡ words_of f → x.code < 256
code_below f x e = rw e (code-byte f)

abbrev three : List ℕ → ℕ → ℕ → ℕ → ℕ → List ℕ
three m t h f s = set (set (set m (at_heads + t) h) (at_first_operands + t) f) (at_second_operands + t) s

module _ (m : List ℕ) (fits : length m ≡ size) (t : ℕ) (l : t < 256) where
  three-written : (h f s : ℕ) → Written m (three m t h f s) t h f s
  three-written h f s =
      let m₁ = set m (at_heads + t) h in
      let m₂ = set m₁ (at_first_operands + t) f in
      record {
        sized = rw (length-set, length-set, length-set) fits;
        head =
            get_or-set_other m₂ (at_second_operands + t) (at_heads + t) s 0 (omega arith) ∙ get_or-set_other m₁ (at_first_operands + t) (at_heads + t) f 0 (omega arith)
            ∙ get_or-set_same m (at_heads + t) h 0 (omega arith);
        first =
            get_or-set_other m₂ (at_second_operands + t) (at_first_operands + t) s 0 (omega arith)
            ∙ get_or-set_same m₁ (at_first_operands + t) f 0 (rw length-set (omega arith));
        second = get_or-set_same m₂ (at_second_operands + t) s 0 (rw (length-set, length-set) (omega arith));
        away =
            λ k a b c. get_or-set_other m₂ (at_second_operands + t) k s 0 c ∙ get_or-set_other m₁ (at_first_operands + t) k f 0 b
            ∙ get_or-set_other m (at_heads + t) k h 0 a;
      }

  head-written : (h : ℕ) → Written m (set m (at_heads + t) h) t h (get_or m (at_first_operands + t) 0) (get_or m (at_second_operands + t) 0)
  head-written h = record {
    sized = rw length-set fits;
    head = get_or-set_same m (at_heads + t) h 0 (omega arith);
    first = get_or-set_other m (at_heads + t) (at_first_operands + t) h 0 (omega arith);
    second = get_or-set_other m (at_heads + t) (at_second_operands + t) h 0 (omega arith);
    away = λ k a b c. get_or-set_other m (at_heads + t) k h 0 a;
  }

  first-written : (f : ℕ) → Written m (set m (at_first_operands + t) f) t (get_or m (at_heads + t) 0) f (get_or m (at_second_operands + t) 0)
  first-written f = record {
    sized = rw length-set fits;
    head = get_or-set_other m (at_first_operands + t) (at_heads + t) f 0 (omega arith);
    first = get_or-set_same m (at_first_operands + t) f 0 (omega arith);
    second = get_or-set_other m (at_first_operands + t) (at_second_operands + t) f 0 (omega arith);
    away = λ k a b c. get_or-set_other m (at_first_operands + t) k f 0 b;
  }

  pub request-put : (address path : ℕ) (x : Words) → x.code < 256 → address < 256 →
      Becomes (three m t (x.code + 256 * address + 2 ^ 36 * path) x.first x.second) (with_request (view m) t address path x)
  request-put address path x a b = tag-written m _ t _ x.first x.second l (three-written _ x.first x.second) (head-new x.code address path a b)

  -- ---- what is written as it was

  address-idle : update (view m).fixed.address t (address_of (head_at m t l)) ≡ (view m).fixed.address
  address-idle = rw (← address-here m t l) (update-idle (view m).fixed.address t)

  path-idle : update (view m).fixed.path t (path_of (head_at m t l)) ≡ (view m).fixed.path
  path-idle = rw (← path-here m t l) (update-idle (view m).fixed.path t)

  after-idle : update (view m).fixed.after t (after_of (head_at m t l)) ≡ (view m).fixed.after
  after-idle = rw (← after-here m t l) (update-idle (view m).fixed.after t)

  -- what the tag's words are
  abbrev words-here : Words
  words-here = record { code = code_of (head_at m t l); first = get_or m (at_first_operands + t) 0; second = get_or m (at_second_operands + t) 0 }

  carried-idle : update (view m).carried t words-here ≡ (view m).carried
  carried-idle = rw (← carried_here m t l) (update-idle (view m).carried t)

  pub after-set : (n h : ℕ) → n ≤ 256 → h ≡ head_at m t l / 2 ^ 36 * 2 ^ 36 + 2 ^ 16 * n + head_at m t l % 2 ^ 16 →
      Becomes (set m (at_heads + t) h) (with_fixed (view m) (linked (view m).fixed t n))
  after-set n h a e =
      let head : Head h (code_of (head_at m t l)) (address_of (head_at m t l)) (path_of (head_at m t l)) n = rw e (head-linked (head_at m t l) n a) in
      rw (address-idle, path-idle, carried-idle) at (tag-written m _ t h _ _ l (head-written h) head)

  pub value_set : (value : ℕ) →
      Becomes (set m (at_first_operands + t) value) (with_carried (view m) t (valued ((view m).carried t) value))
  value_set value =
      rw (address-idle, path-idle, after-idle, ← ap (λ (x : Words). x.code) (carried_here m t l), ← ap (λ (x : Words). x.second) (carried_here m t l)) at
      (tag-written m _ t _ value _ l (first-written value) (record { code_is = refl; address_is = refl; path_is = refl; after_is = refl }))

  pub operation-set : (f : Operation) (x : Words) (h : ℕ) → x ≡ words_of f → h ≡ head_at m t l / 256 * 256 + x.code →
      Becomes (three m t h x.first x.second) (with_carried (view m) t (words_of f))
  operation-set f x h e g =
      let old = head_at m t l in
      let head : Head h x.code (address_of old) (path_of old) (after_of old) = rw g (head-coded old x.code (code_below f x e)) in
      subst (λ (y : Words). Becomes (three m t h x.first x.second) (with_carried (view m) t y)) e
      (rw (address-idle, path-idle, after-idle) at (tag-written m _ t h x.first x.second l (three-written h x.first x.second) head))

-- ---- what the functions cite
pub ruleset tag_reads = (address-here, path-here, after-here, carried_here)
