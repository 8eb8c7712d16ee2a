-- Laws of the octets under way and of the octets issued: how they change from one state to another, by what the request queues hold.
use Prim.Native.Nat.{ℕ, zero, suc, ◌+◌, ◌≤◌, ◌<◌}
use mathlib.Core.Path.{◌≡◌, sym, ap}
use mathlib.Core.Logic.{◌≢◌}
use mathlib.Core.List.{List, [], ◌∷◌}
use native.Mathlib.Decide.{ℕ_discrete}
use native.Mathlib.Omega.{arith}
use lib.Dec.{eqb}
use borrow.Author.Tests.{eq-eqb, ne_eqb}
use Rattle.lists.specs.Choice.{choose}
use Rattle.lists.specs.Search.{All}
use Rattle.lists.specs.Count.{count, total}
use Rattle.lists.proofs.Tests.{by_cases, choose_yes, choose_no}
use Rattle.lists.proofs.Counts.{same-no, count_none, oldest-counted}
use Rattle.lists.proofs.Totals.{totals-none, totals-same, totals-more, table_more}
use Rattle.machine.specs.Setup.{Setup, Message}
use Rattle.machine.specs.State.{State, asked, tags_below, unissued, start}
use Rattle.machine.specs.Octets.{Counter, octets_in, octets_under_way, octets_issued, octets_asked}
use Rattle.machine.proofs.Tags.{message_tag}
use Rattle.machine.proofs.Start.{tags-below, asked-own}

module _ (S : Setup) (C : Counter S.Word S.Operation) (a : ℕ) where
  open S use {Word, k, N, R, engine_of}
  open C use {operand}

  -- ---- what a message brings to a
  abbrev brings : Message S → ℕ
  brings = octets_in S C a

  pub octets-here : (m : Message S) → m.address ≡ a → brings m ≡ operand m.operation
  octets-here m e = choose_yes _ _ (eq-eqb m.address a e)

  pub octets-elsewhere : (m : Message S) → m.address ≢ a → brings m ≡ 0
  octets-elsewhere m n = choose_no _ _ (ne_eqb m.address a n)

  -- ---- octets under way
  -- only what stands in request queues counts, and not what stands at level 0
  pub under-way-same : (st st' : State S) → ((s p : ℕ) → st'.requests (suc s) p ≡ st.requests (suc s) p)
      → octets_under_way S C st' a ≡ octets_under_way S C st a
  unfolding octets_under_way
  under-way-same st st' h = totals-same _ _ _ (λ s _. totals-same N _ _ (λ p _. ap (total brings) (h s p)))

  pub under-way-none : (st : State S) → ((s p : ℕ) → st.requests (suc s) p ≡ []) → octets_under_way S C st a ≡ 0
  unfolding octets_under_way
  under-way-none st h = totals-none _ _ (λ s _. totals-none N _ (λ p _. ap (total brings) (h s p)))

  -- all that stands at levels 1 to k counts: where one queue there has v more, so has the total
  pub under-way-more : (st st' : State S) (s p v : ℕ) → 0 < s → s ≤ k → p < N
      → total brings (st'.requests s p) ≡ total brings (st.requests s p) + v
      → ((j q : ℕ) → ¬ ((j ≡ s) × (q ≡ p)) → st'.requests j q ≡ st.requests j q)
      → octets_under_way S C st' a ≡ octets_under_way S C st a + v
  unfolding octets_under_way
  under-way-more st st' zero p v i i' j e h = absurd (omega arith)
  under-way-more st st' (suc s) p v i i' j e h =
      table_more _ N (λ s p. total brings (st.requests (suc s) p)) (λ s p. total brings (st'.requests (suc s) p)) s p v (omega arith) j e
      (λ s' p' d. ap (total brings) (h (suc s') p' (λ z. d (omega (arith, z.0), z.1))))

  -- ---- octets issued
  -- only what stands at level 0 is looked at
  pub issued-same : (st st' : State S) → ((e : ℕ) → st'.requests 0 e ≡ st.requests 0 e) → octets_issued S C st' a ≡ octets_issued S C st a
  unfolding octets_issued
  issued-same st st' h = totals-same R _ _ (λ t _. rw (h (engine_of t)))

  -- where nothing stands there all that was asked is issued; at the start nothing is
  pub issued-all : (st : State S) → ((e : ℕ) → st.requests 0 e ≡ []) → octets_issued S C st a ≡ octets_asked S C a
  unfolding octets_issued octets_asked
  issued-all st h = totals-same R _ _ (λ t _. rw (h (engine_of t)))

  pub issued-none : (words : ℕ → Word) → octets_issued S C (start S words) a ≡ 0
  unfolding octets_issued start unissued
  issued-none words = totals-none R _ (λ t l. rw (asked-own S t (tags_below R), tags-below R t l))

  -- the oldest of an engine's unissued leaves them: it is issued then, and no other is
  module _ (st st' : State S) (p : ℕ) (m : Message S) (rest : List (Message S)) (is : st.requests 0 p ≡ m ∷ rest) (left : st'.requests 0 p ≡ rest)
      (others : (e : ℕ) → e ≢ p → st'.requests 0 e ≡ st.requests 0 e)
      (own : engine_of m.tag ≡ p) (known : m.tag < R) (once : All (λ (y : Message S). y.tag ≢ m.tag) rest) where
    -- how often t stands among the unissued of its engine, and what it brings if it does not
    abbrev times : State S → ℕ → ℕ
    times x t = count (message_tag S) t (x.requests 0 (engine_of t))

    abbrev issued_of : ℕ → ℕ → ℕ
    issued_of t n = choose (eqb n 0) (brings (asked S t)) 0

    not-before : issued_of m.tag (times st m.tag) ≡ 0
    not-before = rw own (choose_no _ _ (ne_eqb (count (message_tag S) m.tag (st.requests 0 p)) 0 (λ e. omega (arith, e, oldest-counted (message_tag S) is))))

    from-now : issued_of m.tag (times st' m.tag) ≡ brings (asked S m.tag)
    from-now = rw (own, left) (choose_yes _ _ (eq-eqb (count (message_tag S) m.tag rest) 0 (count_none (message_tag S) m.tag once)))

    times-other : (u : ℕ) → u ≢ m.tag → times st' u ≡ times st u
    times-other u d = by_cases (ℕ_discrete (engine_of u) p)
        (λ (e : engine_of u ≡ p). rw (e, left, is) (omega (arith, same-no (λ (z : m.tag ≡ u). d (sym z)))))
        (λ (n : engine_of u ≢ p). ap (count (message_tag S) u) (others (engine_of u) n))

    pub issued-one : octets_issued S C st' a ≡ octets_issued S C st a + brings (asked S m.tag)
    unfolding octets_issued
    issued-one =
        totals-more R _ _ m.tag (brings (asked S m.tag)) known (omega (arith, not-before, from-now)) (λ u d. ap (issued_of u) (times-other u d))
