-- The requests that a message stands for, put out record by record.
use Prim.Native.Nat.{ℕ, zero, suc, ◌+◌, ◌-◌, ◌≤◌, ◌<◌}
use mathlib.Core.Path.{◌≡◌, refl, sym, ap, ◌∙◌}
use mathlib.Core.Logic.{◌≢◌}
use mathlib.Core.Bool.{Bool, true, false}
use mathlib.Core.List.{List, [], ◌∷◌, ◌++◌, append_assoc, append-nil}
use native.Mathlib.Numerals.{add-one}
use native.Mathlib.Omega.{arith}
use lib.ListN.{length, length-append}
use lib.Dec.{eqb}
use borrow.Author.Tests.{eq-eqb, ne_eqb}
use Rattle.lists.specs.Choice.{choose}
use Rattle.lists.specs.Table.{list_below}
use Rattle.lists.specs.Inner.Pair.{Pair}
use Rattle.lists.proofs.Below.{below-add}
use Rattle.words.specs.Inner.Digits.{byte_in}
use Rattle.wiring.specs.Inner.Path.{position_on}
use Rattle.queue.specs.Inner.Queue.{pair_in, pairs_in}
use Rattle.view.specs.Inner.View.{View, with_order}
use Rattle.store.specs.Inner.Layout.{size}
use Rattle.store.specs.Inner.Memory.{view, Becomes}
use Rattle.shown.specs.Inner.Shown.{seconds_for, tags_for}
use Rattle.replies.specs.Inner.Returns.{ExpansionFits, with_expansion, WaitsFit}

-- ---- what the second tags of t's records among the first i stand for
module _ (up_to : ℕ → List ℕ) (t : ℕ) where
  seconds-append : (xs ys : List Pair) → seconds_for up_to t (xs ++ ys) ≡ seconds_for up_to t xs ++ seconds_for up_to t ys
  seconds-append [] ys = refl
  seconds-append (r ∷ rs) ys = go (eqb r.first t) (seconds-append rs ys)
    where
      go : (b : Bool) → seconds_for up_to t (rs ++ ys) ≡ seconds_for up_to t rs ++ seconds_for up_to t ys →
          choose b (up_to r.second ++ seconds_for up_to t (rs ++ ys)) (seconds_for up_to t (rs ++ ys)) ≡
          choose b (up_to r.second ++ seconds_for up_to t rs) (seconds_for up_to t rs) ++ seconds_for up_to t ys
      go true e = ap (λ (l : List ℕ). up_to r.second ++ l) e ∙ sym (append_assoc (up_to r.second) (seconds_for up_to t rs) (seconds_for up_to t ys))
      go false e = e

  module _ (f : ℕ → Pair) where
    abbrev pub sofar : ℕ → List ℕ
    sofar i = seconds_for up_to t (list_below i f)

    one_more : (i : ℕ) → sofar (i + 1) ≡ sofar i ++ seconds_for up_to t (f i ∷ [])
    unfolding list_below
    one_more i = rw add-one (seconds-append (list_below i f) (f i ∷ []))

    pub sofar-hit : (i : ℕ) → (f i).first ≡ t → sofar (i + 1) ≡ sofar i ++ up_to (f i).second
    sofar-hit i e = one_more i ∙ ap (λ (l : List ℕ). sofar i ++ l) (rw (eq-eqb (f i).first t e) (append-nil (up_to (f i).second)))

    pub sofar-miss : (i : ℕ) → (f i).first ≢ t → sofar (i + 1) ≡ sofar i
    sofar-miss i e = one_more i ∙ ap (λ (l : List ℕ). sofar i ++ l) (rw (ne_eqb (f i).first t e)) ∙ append-nil (sofar i)

    -- places without t put out nothing
    pub sofar-none : (i : ℕ) → ((j : ℕ) → j < i → (f j).first ≢ t) → sofar i ≡ []
    unfolding list_below
    sofar-none zero h = refl
    sofar-none (suc i) h = ap sofar (sym (add-one i)) ∙ sofar-miss i (h i (omega arith)) ∙ sofar-none i (λ j l. h j (omega arith))

    -- where the loop ends, what was put out is that of all n records: it may start behind the last of them
    abbrev pub Past : ℕ → ℕ → Type 0
    Past n i = n ≤ i → sofar i ≡ sofar n

    pub past-none : (n i : ℕ) → ((j : ℕ) → j < i → (f j).first ≢ t) → Past n i
    past-none n i h l = sofar-none i h ∙ sym (sofar-none n (λ j below. h j (omega arith)))

    pub past_next : (n i : ℕ) → i < n → Past n (i + 1)
    past_next n i l h = ap sofar (omega arith)

    pub sofar-grows : (i n : ℕ) → i ≤ n → length (sofar i) ≤ length (sofar n)
    sofar-grows i n h =
        let z : n ≡ i + (n - i) = omega arith in
        let e = ap sofar z ∙ ap (seconds_for up_to t) (below-add i (n - i) f) ∙ seconds-append (list_below i f) (list_below (n - i) (λ j. f (i + j))) in
        rw (e, length-append) (omega arith)

-- ---- one level more
module _ (path : ℕ → ℕ) (waits : ℕ → ℕ → List Pair) where
  pub tags-zero : (level t : ℕ) → level ≡ 0 → tags_for path waits level t ≡ t ∷ []
  unfolding tags_for
  tags-zero level t e = rw e

  pub tags-part : (level t : ℕ) → level ≢ 0 → length (tags_for path waits (level - 1) t) ≤ length (tags_for path waits level t)
  unfolding tags_for
  tags-part zero t h = absurd (h refl)
  tags-part (suc s) t h = let z : suc s - 1 ≡ s = omega arith in rw (z, length-append (tags_for path waits s t) _) (omega arith)

  -- the requests of t up to the level below, then what its records there stand for
  pub tags-up : (level t p firsts seconds n : ℕ) → level ≢ 0 → p ≡ position_on (path t) level → pairs_in firsts seconds n ≡ waits level p →
      tags_for path waits level t ≡ tags_for path waits (level - 1) t ++ sofar (tags_for path waits (level - 1)) t (pair_in firsts seconds) n
  unfolding tags_for
  tags-up zero t p firsts seconds n h e g = absurd (h refl)
  tags-up (suc s) t p firsts seconds n h e g = let z : suc s - 1 ≡ s = omega arith in rw (z, g, e)

-- ---- "up to level 0 they are t alone"
module _ (m : List ℕ) (level t : ℕ) (bottom : level ≡ 0) where
  pub one-room : ExpansionFits (view m) level t → length (view m).order < 256
  one-room room =
      let one : length (view m).order + length (t ∷ []) ≤ 256 = rw (tags-zero (view m).fixed.path (view m).waits level t bottom) at room in
      omega (arith, one)

  pub put_one : {m' : List ℕ} → Becomes m' (with_order (view m) (t ∷ [])) →
      Becomes m' (with_expansion (view m) level t)
  put_one b = rw (tags-zero (view m).fixed.path (view m).waits level t bottom) b

-- ---- the order list grows
order-more : (v : View) (xs ys : List ℕ) → with_order (with_order v xs) ys ≡ with_order v (xs ++ ys)
order-more v xs ys = rw (append_assoc v.order xs ys)

-- up to the level below, from the view at a level's start
abbrev pub under : View → ℕ → ℕ → List ℕ
under v level = tags_for v.fixed.path v.waits (level - 1)

-- what the records before place i, with the first tag t, stand for
abbrev pub gone : View → (level t firsts seconds i : ℕ) → List ℕ
gone v level t firsts seconds = sofar (under v level) t (pair_in firsts seconds)

pub fit-kept : {v : View} {m' : List ℕ} (l : List ℕ) → WaitsFit v → Becomes m' (with_order v l) → WaitsFit (view m')
fit-kept l F b = record { few = λ s p. rw b.holds (F.few s p) }

pub put-none : (m : List ℕ) (level t firsts seconds i : ℕ) → length m ≡ size → ((j : ℕ) → j < i → byte_in firsts j ≢ t) →
    Becomes m (with_order (view m) (gone (view m) level t firsts seconds i))
put-none m level t firsts seconds i sized none =
    record { sized = sized; holds = rw (sofar-none (under (view m) level) t (pair_in firsts seconds) i none, append-nil (view m).order) }

module _ (m₀ : List ℕ) {m : List ℕ} (level t firsts seconds i : ℕ) (put : Becomes m (with_order (view m₀) (gone (view m₀) level t firsts seconds i))) where
  pub put-hit : {m' m'' : List ℕ} (first second : ℕ) → first ≡ (pair_in firsts seconds i).first → first ≡ t → second ≡ (pair_in firsts seconds i).second → m'' ≡ m' →
      Becomes m' (with_order (view m) (under (view m) level second)) → Becomes m'' (with_order (view m₀) (gone (view m₀) level t firsts seconds (i + 1)))
  put-hit {m'} first second e h g now b =
      let v = view m₀ in
      let is : view m' ≡ with_order (with_order v (gone v level t firsts seconds i)) (under v level second) = rw put.holds at b.holds in
      rw now record {
        sized = b.sized;
        holds = is ∙ order-more (view m₀) _ _ ∙ ap (with_order (view m₀)) (rw (sofar-hit (under (view m₀) level) t (pair_in firsts seconds) i (sym e ∙ h), g));
      }

  pub put-miss : {m'' : List ℕ} (first : ℕ) → first ≡ (pair_in firsts seconds i).first → first ≢ t → m'' ≡ m →
      Becomes m'' (with_order (view m₀) (gone (view m₀) level t firsts seconds (i + 1)))
  put-miss first e n now = rw (now, sofar-miss (under (view m₀) level) t (pair_in firsts seconds) i (λ z. n (e ∙ z))) put

-- ---- of the whole level, once the level below is put out and the records are loaded
pub record Opened (m m₀ : List ℕ) (level t p firsts seconds n : ℕ) : Type 0 where
  pub up : level ≢ 0
  pub on : p ≡ position_on ((view m₀).fixed.path t) level
  pub loaded : pairs_in firsts seconds n ≡ (view m₀).waits level p
  pub first : Becomes m₀ (with_expansion (view m) (level - 1) t)

module _ {m m₀ : List ℕ} {level t p firsts seconds n : ℕ} (O : Opened m m₀ level t p firsts seconds n) where
  tags-all : tags_for (view m).fixed.path (view m).waits level t ≡ under (view m) level t ++ gone (view m) level t firsts seconds n
  tags-all = tags-up (view m).fixed.path (view m).waits level t p firsts seconds n O.up (rw O.first.holds at O.on) (rw O.first.holds at O.loaded)

  pub put_all : {m' : List ℕ} (i : ℕ) → gone (view m₀) level t firsts seconds i ≡ gone (view m₀) level t firsts seconds n →
      Becomes m' (with_order (view m₀) (gone (view m₀) level t firsts seconds i)) →
      Becomes m' (with_expansion (view m) level t)
  put_all {m'} i e b =
      let v = view m in
      let is : view m' ≡ with_order (with_order v (under v level t)) (gone v level t firsts seconds n) = rw (e, O.first.holds) at b.holds in
      record { sized = b.sized; holds = is ∙ order-more (view m) _ _ ∙ ap (with_order (view m)) (sym tags-all) }

  -- no record of t: of none at all, or of n others
  pub put-nothing : (i : ℕ) → n ≤ i → ((j : ℕ) → j < i → byte_in firsts j ≢ t) → Becomes m₀ (with_expansion (view m) level t)
  put-nothing i h none =
      put_all i (past-none (under (view m₀) level) t (pair_in firsts seconds) n i none h) (put-none m₀ level t firsts seconds i O.first.sized none)

  -- a record's second tag has room behind those before it
  pub second-room : {m₁ : List ℕ} (i u v : ℕ) → i < n → u ≡ (pair_in firsts seconds i).first → u ≡ t → v ≡ (pair_in firsts seconds i).second →
      Becomes m₁ (with_order (view m₀) (gone (view m₀) level t firsts seconds i)) →
      ExpansionFits (view m) level t → length (view m₁).order + length (under (view m₁) level v) ≤ 256
  second-room {m₁} i u v h e g w b room =
      let up_to = under (view m) level in
      let F = pair_in firsts seconds in
      let is : view m₁ ≡ with_order (with_order (view m) (up_to t)) (sofar up_to t F i) = rw O.first.holds at b.holds in
      let a = ap length tags-all ∙ length-append (up_to t) (sofar up_to t F n) in
      let c = ap length (sofar-hit up_to t F i (sym e ∙ g)) ∙ length-append (sofar up_to t F i) (up_to (F i).second) in
      rw (is, length-append, length-append, w) (omega (arith, a, c, sofar-grows up_to t F (i + 1) n (omega arith), room))
