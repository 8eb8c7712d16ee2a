-- The shape, the marks of the requests that there are, and the counts of a run: written.
use Prim.Native.Nat.{ℕ, suc, ◌+◌, ◌-◌, ◌*◌, ◌/◌, ◌%◌, ◌≤◌, ◌<◌, min}
use mathlib.Core.Path.{◌≡◌, refl, sym, ◌∙◌, fun_ext}
use mathlib.Core.Bool.{false}
use mathlib.Core.List.{List}
use native.Mathlib.Decide.{dec_lt}
use native.Mathlib.Numerals.{add-one}
use native.Mathlib.Omega.{arith}
use borrow.Author.Tests.{lt-ltb, le-ltb}
use lib.Dec.{eqb, ltb}
use lib.ListN.{length, get_or, set, length-set}
use lib.Seq.{get_or-set_same, get_or-set_other}
use Rattle.lists.specs.Choice.{choose}
use Rattle.lists.proofs.Tests.{by_cases, ltb-cases}
use Rattle.words.specs.Inner.Digits.{bit_in, LowBits}
use Rattle.view.specs.Inner.View.{with_fixed, with_access, with_merge, with_round, shaped}
use Rattle.store.specs.Inner.Layout.{size, at_k, at_q, at_w, at_count, at_every, at_accesses, at_merges, at_rounds, at_heads}
use Rattle.store.specs.Inner.Memory.{marks_at, address_of, path_of, after_of, fixed_in, view, Becomes}
use Rattle.store.proofs.Regions.{Kept, column-same, becomes}

-- ---- a count of a run

module _ (m : List ℕ) (fits : length m ≡ size) (i : ℕ) where
  abbrev added : List ℕ
  added = set m i (get_or m i 0 + 1)

  one_more : i < size → get_or added i 0 ≡ suc (get_or m i 0)
  one_more l = get_or-set_same m i (get_or m i 0 + 1) 0 (omega arith) ∙ add-one (get_or m i 0)

  kept : Kept i 1 i 1 m added
  kept k f g = get_or-set_other m i k (get_or m i 0 + 1) 0 (λ z. f (omega arith))

  sized : length added ≡ size
  sized = rw length-set fits

module _ (m : List ℕ) (fits : length m ≡ size) where
  pub access-added : Becomes (added m fits at_accesses) (with_access (view m))
  unfolding view
  access-added = becomes at_accesses 1 at_accesses 1 m _ (kept m fits at_accesses) (sized m fits at_accesses) (rw (one_more m fits at_accesses (omega arith)))

  pub merge-added : Becomes (added m fits at_merges) (with_merge (view m))
  unfolding view
  merge-added = becomes at_merges 1 at_merges 1 m _ (kept m fits at_merges) (sized m fits at_merges) (rw (one_more m fits at_merges (omega arith)))

  pub round-added : Becomes (added m fits at_rounds) (with_round (view m))
  unfolding view
  round-added = becomes at_rounds 1 at_rounds 1 m _ (kept m fits at_rounds) (sized m fits at_rounds) (rw (one_more m fits at_rounds (omega arith)))

-- ---- the shape, and a mark for each request

-- the word of marks that a request's mark stands in
mark-below : (count j w t : ℕ) → LowBits (min (count - j * 64) 64) w → t / 64 ≡ j → eqb (bit_in w (t % 64)) 1 ≡ ltb t count
mark-below count j w t b e =
    rw (b.marks (t % 64))
    (ltb-cases (λ c. eqb (choose c 1 0) 1 ≡ ltb t count) (t % 64) (min (count - j * 64) 64)
    (λ l. sym (lt-ltb t count (omega arith))) (λ l. sym (le-ltb t count (omega arith))))

-- the words so far: the shape, and the marks of the words below the i-th
pub record Shaping (m₀ : List ℕ) (k q w count : ℕ) (m : List ℕ) (i : ℕ) : Type 0 where
  pub sized : length m ≡ size
  pub k-is : get_or m at_k 0 ≡ k
  pub q-is : get_or m at_q 0 ≡ q
  pub w-is : get_or m at_w 0 ≡ w
  pub count-is : get_or m at_count 0 ≡ count
  pub marked : (j : ℕ) → j < i → LowBits (min (count - j * 64) 64) (get_or m (at_every + j) 0)
  pub beyond : (j : ℕ) → 8 ≤ j → get_or m j 0 ≡ get_or m₀ j 0

module _ {m₀ : List ℕ} {k q w count : ℕ} {m : List ℕ} {i : ℕ} (S : Shaping m₀ k q w count m i) where
  module _ (small : count ≤ 256) (all : i ≡ 4) where
    marks : marks_at at_every m ≡ (λ t. ltb t count)
    marks = fun_ext (λ t. ltb-cases (λ b. choose b (eqb (bit_in (get_or m (at_every + t / 64) 0) (t % 64)) 1) false ≡ ltb t count) t 256
        (λ l. mark-below count (t / 64) (get_or m (at_every + t / 64) 0) t (S.marked (t / 64) (omega arith)) refl)
        (λ l. sym (le-ltb t count (omega arith))))

    kept_beyond : Kept at_k 8 at_k 8 m₀ m
    kept_beyond j f g = by_cases (dec_lt j 8) (λ (l : j < 8). absurd (f (omega arith))) (λ (l : ¬ (j < 8)). S.beyond j (omega arith))

    fixed-is : (view m).fixed ≡ shaped (view m₀).fixed k q w count
    unfolding view fixed_in
    fixed-is =
        let heads = column-same m₀ m at_heads (λ i h. S.beyond i (omega arith)) in
        λ i. record {
          k = S.k-is i;
          q = S.q-is i;
          w = S.w-is i;
          count = S.count-is i;
          every = marks i;
          address = λ t. address_of (heads i t);
          path = λ t. path_of (heads i t);
          after = λ t. after_of (heads i t);
        }

    pub shaping-ends : Becomes m (with_fixed (view m₀) (shaped (view m₀).fixed k q w count))
    shaping-ends = becomes at_k 8 at_k 8 m₀ m kept_beyond S.sized (rw fixed-is)
