-- Marks of requests and the order list: numbers side by side in the words of a region, read and written at one place.
use Prim.Native.Nat.{ℕ, ◌+◌, ◌*◌, ◌/◌, ◌%◌, ◌^◌, ◌≤◌, ◌<◌}
use mathlib.Core.Path.{◌≡◌, refl, sym, ap, ap₂, ◌∙◌}
use mathlib.Core.Logic.{◌≢◌}
use mathlib.Core.Bool.{Bool, true, false, false≢true}
use mathlib.Core.List.{List, [], ◌∷◌, ◌++◌}
use native.Mathlib.Decide.{ℕ_discrete}
use native.Mathlib.Nat.{div-add-mod'}
use native.Mathlib.Numerals.{add-one}
use native.Mathlib.Omega.{arith}
use borrow.Author.Tests.{lt-ltb, eq-eqb, ne_eqb, eqb-true, eqb-false}
use lib.Dec.{eqb}
use lib.ListN.{length, get_or, set, take, drop, length-set, length-take, length-drop}
use lib.Pointwise.{pointwise, bytes_decides}
use lib.Seq.{get_or-set_same, get_or-set_other, get_or-take, get_or-drop}
use Rattle.std.proofs.Common.{nat_eq}
use Rattle.std.proofs.lemmas.Grind.{same_number_lists}
use Rattle.lists.specs.Choice.{choose}
use Rattle.lists.specs.Table.{update, list_below}
use Rattle.lists.proofs.Tests.{by_cases, ltb-cases}
use Rattle.lists.proofs.Tables.{update_same, update_other}
use Rattle.lists.proofs.Below.{length-below, get_or-below, below-same}
use Rattle.words.specs.Inner.Digits.{digit, byte_in, bit_in, Topped}
use Rattle.words.proofs.Digits.{digit_lt, digits_same}
use Rattle.view.specs.Inner.View.{with_answer, with_order}
use Rattle.store.specs.Inner.Layout.{size, at_every, at_answered, at_ordered, at_order}
use Rattle.store.specs.Inner.Memory.{marks_at, bytes_at, fixed_in, order_in, view, Becomes, Same}
use Rattle.store.proofs.Columns.{tags-changed}
use Rattle.store.proofs.Regions.{becomes}

-- ---- c numbers to a word: the one at t is another one

module _ (bits c from : ℕ) (m : List ℕ) (t w x : ℕ) (inside : from + t / c < length m)
    (e : digit bits w ≡ update (digit bits (get_or m (from + t / c) 0)) (t % c) x) where
  abbrev number : List ℕ → ℕ → ℕ
  number l s = digit bits (get_or l (from + s / c) 0) (s % c)

  abbrev m' : List ℕ
  m' = set m (from + t / c) w

  number-here : number m' t ≡ x
  number-here = rw (get_or-set_same m (from + t / c) w 0 inside, e) (update_same _ (t % c) x)

  number-other : (s : ℕ) → s ≢ t → number m' s ≡ number m s
  number-other s n =
      by_cases (ℕ_discrete (from + s / c) (from + t / c))
      (λ (q : from + s / c ≡ from + t / c).
      let d : s / c ≡ t / c = omega arith in
      let r : s % c ≢ t % c = λ z. n (sym (div-add-mod' s c) ∙ ap₂ (λ (i j : ℕ). i * c + j) d z ∙ div-add-mod' t c) in
      rw (d, get_or-set_same m (from + t / c) w 0 inside, e) (update_other _ (t % c) x r))
      (λ (q : from + s / c ≢ from + t / c). rw (get_or-set_other m (from + t / c) (from + s / c) w 0 q))

-- ---- one request more is answered

pub answer-set : (m : List ℕ) → length m ≡ size → (t w : ℕ) → t < 256 → bit_in w ≡ update (bit_in (get_or m (at_answered + t / 64) 0)) (t % 64) 1 →
    Becomes (set m (at_answered + t / 64) w) (with_answer (view m) t)
unfolding view
answer-set m fits t w l e =
    let m' = set m (at_answered + t / 64) w in
    let marks : marks_at at_answered m' ≡ update (marks_at at_answered m) t true =
    tags-changed false _ _ t true l (rw (number-here 1 64 at_answered m t w 1 (omega arith) e))
    (λ s a n. rw (number-other 1 64 at_answered m t w 1 (omega arith) e s n)) in
    becomes at_answered 4 at_answered 4 m m' (λ k f g. get_or-set_other m (at_answered + t / 64) k w 0 (λ z. f (omega arith))) (rw length-set fits) (rw marks)

-- ---- one tag more in the order list

module _ (m : List ℕ) (fits : length m ≡ size) (t w : ℕ) where
  abbrev n : ℕ
  n = get_or m at_ordered 0

  abbrev m₁ : List ℕ
  m₁ = set m (at_order + n / 8) w

  abbrev m₂ : List ℕ
  m₂ = set m₁ at_ordered (n + 1)

  module _ (l : n < 256) (e : Topped (get_or m (at_order + n / 8) 0) (n % 8) t w) where
    byte-here : byte_in (get_or m₂ (at_order + n / 8) 0) (n % 8) ≡ t
    byte-here = rw (get_or-set_other m₁ at_ordered (at_order + n / 8) (n + 1) 0 (omega arith), get_or-set_same m (at_order + n / 8) w 0 (omega arith)) e.highest

    -- an earlier one stands below it in its word, or in another word
    byte-before : (i : ℕ) → i < n → byte_in (get_or m₂ (at_order + i / 8) 0) (i % 8) ≡ byte_in (get_or m (at_order + i / 8) 0) (i % 8)
    byte-before i h =
        rw (get_or-set_other m₁ at_ordered (at_order + i / 8) (n + 1) 0 (omega arith))
        (by_cases (ℕ_discrete (i / 8) (n / 8))
        (λ (q : i / 8 ≡ n / 8). rw (q, get_or-set_same m (at_order + n / 8) w 0 (omega arith)) (e.below (i % 8) (omega arith)))
        (λ (q : i / 8 ≢ n / 8). rw (get_or-set_other m (at_order + n / 8) (at_order + i / 8) w 0 (omega arith))))

    list : order_in m₂ ≡ order_in m ++ (t ∷ [])
    unfolding order_in list_below
    list =
        ap (λ (k : ℕ). list_below k (bytes_at at_order m₂)) (get_or-set_same m₁ at_ordered (n + 1) 0 (rw length-set (omega arith)) ∙ add-one n)
        ∙ ap₂ (λ (xs : List ℕ) (x : ℕ). xs ++ (x ∷ []))
        (below-same n (bytes_at at_order m₂) (bytes_at at_order m) (λ i h. rw (lt-ltb i 256 (omega arith)) (byte-before i h)))
        (rw (lt-ltb n 256 l) byte-here)

    pub order-appended : Becomes m₂ (with_order (view m) (t ∷ []))
    unfolding view
    order-appended =
        becomes at_ordered 1 at_order 32 m m₂
        (λ k f g. get_or-set_other m₁ at_ordered k (n + 1) 0 (λ z. f (omega arith)) ∙ get_or-set_other m (at_order + n / 8) k w 0 (λ z. g (omega arith)))
        (rw (length-set, length-set) fits) (rw list)

pub order-length : (m : List ℕ) → length (view m).order ≡ get_or m at_ordered 0
unfolding view order_in
order-length m = length-below _ _

pub order-here : (m : List ℕ) (i : ℕ) → i < 256 → i < length (view m).order → get_or (view m).order i 0 ≡ byte_in (get_or m (at_order + i / 8) 0) (i % 8)
unfolding view order_in
order-here m i l h =
    let e : bytes_at at_order m i ≡ byte_in (get_or m (at_order + i / 8) 0) (i % 8) = rw (lt-ltb i 256 l) in
    get_or-below 0 _ (bytes_at at_order m) i (rw (← order-length m) h) ∙ e

-- ---- whether every request is answered

pub answered-here : (m : List ℕ) (t : ℕ) → t < 256 → (view m).answered t ≡ eqb (bit_in (get_or m (at_answered + t / 64) 0) (t % 64)) 1
unfolding view
answered-here m t l = rw (lt-ltb t 256 l)

pub answered-none : (m : List ℕ) (t : ℕ) → t < 256 → (view m).answered t ≡ false → bit_in (get_or m (at_answered + t / 64) 0) (t % 64) ≡ 0
answered-none m t l e =
    let mark = bit_in (get_or m (at_answered + t / 64) 0) (t % 64) in
    let n : mark ≢ 1 = eqb-false mark 1 (sym (answered-here m t l) ∙ e) in
    omega (arith, digit_lt 1 (get_or m (at_answered + t / 64) 0) (t % 64))

every_here : (m : List ℕ) (t : ℕ) → t < 256 → (view m).fixed.every t ≡ eqb (bit_in (get_or m (at_every + t / 64) 0) (t % 64)) 1
unfolding view fixed_in
every_here m t l = rw (lt-ltb t 256 l)

-- two marks are the same where they say the same
same-mark : (a b : ℕ) → a < 2 → b < 2 → eqb a 1 ≡ eqb b 1 → a ≡ b
same-mark a b f g e =
    by_cases (ℕ_discrete a 1)
    (λ (p : a ≡ 1). p ∙ sym (eqb-true b 1 (sym e ∙ eq-eqb a 1 p)))
    (λ (p : a ≢ 1). let q : b ≢ 1 = eqb-false b 1 (sym e ∙ ne_eqb a 1 p) in omega arith)

module _ (m : List ℕ) where
  abbrev answers : ℕ → ℕ
  answers j = get_or m (at_answered + j) 0

  abbrev requests : ℕ → ℕ
  requests j = get_or m (at_every + j) 0

  -- where all marks are the same, so are those of each word
  alike-within : ((t : ℕ) → (view m).answered t ≡ (view m).fixed.every t) → (j : ℕ) → j < 4 → (i : ℕ) → i < 64 → bit_in (answers j) i ≡ bit_in (requests j) i
  alike-within h j l i a =
      let q : (j * 64 + i) / 64 ≡ j = omega arith in
      let r : (j * 64 + i) % 64 ≡ i = omega arith in
      let e = sym (answered-here m (j * 64 + i) (omega arith)) ∙ h (j * 64 + i) ∙ every_here m (j * 64 + i) (omega arith) in
      same-mark _ _ (digit_lt 1 (answers j) i) (digit_lt 1 (requests j) i) (rw (q, r) at e)

  -- where all words are the same, so are all marks
  alike : ((j : ℕ) → j < 4 → answers j ≡ requests j) → (t : ℕ) → (view m).answered t ≡ (view m).fixed.every t
  unfolding view fixed_in
  alike h t =
      ltb-cases (λ c. choose c (eqb (bit_in (answers (t / 64)) (t % 64)) 1) false ≡ choose c (eqb (bit_in (requests (t / 64)) (t % 64)) 1) false) t 256
      (λ l. rw (h (t / 64) (omega arith))) (λ _. refl)

  -- the four words of a region
  abbrev four_at : ℕ → List ℕ
  four_at from = take 4 (drop from m)

  four-long : length m ≡ size → (from : ℕ) → from + 4 ≤ size → length (four_at from) ≡ 4
  four-long fits from l = length-take 4 (drop from m) ∙ (rw length-drop (omega arith))

  four-here : (from j : ℕ) → j < 4 → get_or (four_at from) j 0 ≡ get_or m (from + j) 0
  four-here from j l = get_or-take 4 (drop from m) j 0 l ∙ get_or-drop from m j 0

  four-same : length m ≡ size → ((j : ℕ) → j < 4 → answers j ≡ requests j) → four_at at_answered ≡ four_at at_every
  four-same fits h =
      let a = four-long fits at_answered (omega arith) in
      same_number_lists (four_at at_answered) (four_at at_every) (a ∙ sym (four-long fits at_every (omega arith)))
      (λ j l. four-here at_answered j (omega arith) ∙ h j (omega arith) ∙ sym (four-here at_every j (omega arith)))

  -- every request is answered just where the words of marks are the same
  pub all-told : length m ≡ size → ((i : ℕ) → get_or m i 0 < 2 ^ 64) → {r : Bool} → r ≡ pointwise nat_eq (four_at at_answered) (four_at at_every) →
      Same (view m).answered (view m).fixed.every r
  all-told fits small e =
      let told = bytes_decides (four_at at_answered) (four_at at_every) in
      record {
        same = λ z.
            let words = told.0 (sym e ∙ z) in
            alike (λ j l. sym (four-here at_answered j l) ∙ ap (λ (l : List ℕ). get_or l j 0) words ∙ four-here at_every j l);
        differ = λ z h. false≢true (sym z ∙ e ∙ told.1 (four-same fits (λ j l.
            digits_same 1 64 (answers j) (requests j) (small (at_answered + j)) (small (at_every + j)) (alike-within h j l))));
      }

-- ---- what the functions cite
pub ruleset order_reads = (order-length, order-here, answered-here, answered-none, all-told)
