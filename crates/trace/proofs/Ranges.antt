-- What the refusals leave: the fields of an accepted trace's items are in their ranges, and the sections stand in their order.
use Prim.Native.Nat.{ℕ, ◌≤◌, ◌<◌, ◌^◌}
use mathlib.Core.Path.{◌≡◌, refl, sym, subst}
use mathlib.Core.Logic.{◌≢◌}
use mathlib.Core.Bool.{Bool, true, false, not}
use mathlib.Core.List.{List, [], ◌∷◌}
use native.Mathlib.Omega.{arith}
use lib.ListN.{length, length-append}
use lib.Dec.{eqb, ltb, leb}
use borrow.Author.Tests.{eqb-true, eqb-false, leb-true, ltb-true}
use Rattle.lists.specs.Choice.{choose, both}
use Rattle.lists.specs.Search.{All, nil}
use Rattle.lists.proofs.Every.{all_more}
use Rattle.lists.proofs.Tests.{clash, both_true}
use Rattle.operation.specs.Operation.{operands_fit}
use Rattle.event.specs.Event.{Event, Act, event, drain, names_step}
use Rattle.trace.specs.Bytes.{AreBytes}
use Rattle.trace.specs.Inner.Fits.{field_fits}
use Rattle.trace.specs.Item.{Shape, Word, Request, Item, shape, word, request, act, Items, none, after}
use Rattle.trace.specs.Table.{parts_of, section}
use Rattle.trace.specs.Inner.Fits.{FitsBytes, AllFitBytes, after-fit}
use Rattle.trace.specs.Contents.{contents, add, shape_of, words_given, requests_of, acts_of, last_section}
use Rattle.trace.specs.Refusals.{unless, or_else, may_follow, shape_fits, request_fits, own_fault, fault}
use Rattle.trace.specs.Check.{accepted, check}
use Rattle.trace.specs.Inner.Fits.{Valid, valid-after}
use Rattle.trace.specs.Inner.Ranges.{WordBytes, RequestBytes, EventBytes, ShapeIn, RequestIn, ActIn, InRange}
use Rattle.trace.proofs.Tests.{unless-zero, or-else-zero}
use Rattle.trace.proofs.Table.{item-right, word-section, request-section, act-section}
use Rattle.trace.proofs.Accept.{Accepted, accepted-is}

-- an item that is not refused may follow, and has no fault of its own
pub in_order : (before : Items) (x : Item) → fault before x ≡ 0 → may_follow (last_section before) (section x) ≡ true
unfolding fault
in_order before x h = unless-zero (may_follow (last_section before) (section x)) 3 (or-else-zero _ _ h).0

pub own-clean : (before : Items) (x : Item) → fault before x ≡ 0 → own_fault (contents before) x ≡ 0
unfolding fault
own-clean before x h = (or-else-zero _ _ h).1

-- behind a section of the first three stand only such
pub follow-low : (last s : ℕ) → may_follow last s ≡ true → s < 4 → last < 4
unfolding may_follow
follow-low last s h low = go (eqb last 0) refl h
  where
    go : (t : Bool) → eqb last 0 ≡ t → choose t (eqb s 1) (both (ltb 1 s) (leb last s)) ≡ true → last < 4
    go true e f = omega (arith, eqb-true last 0 e)
    go false e f = omega (arith, leb-true last s (both_true (ltb 1 s) (leb last s) f).1)

-- only a shape stands first, and it stands nowhere else
follow-some : (last s : ℕ) → may_follow last s ≡ true → s ≢ 1 → last ≢ 0
unfolding may_follow
follow-some last s h other = go (eqb last 0) refl h
  where
    go : (t : Bool) → eqb last 0 ≡ t → choose t (eqb s 1) (both (ltb 1 s) (leb last s)) ≡ true → last ≢ 0
    go true e f = absurd (other (eqb-true s 1 f))
    go false e f = eqb-false last 0 e

follow-none : (last : ℕ) → may_follow last 1 ≡ true → last ≡ 0
unfolding may_follow
follow-none last h = go (eqb last 0) refl h
  where
    go : (t : Bool) → eqb last 0 ≡ t → choose t true false ≡ true → last ≡ 0
    go true e f = eqb-true last 0 e
    go false e f = clash (cc)

pub section-some : (x : Item) → section x ≢ 0
section-some x e = is-section (item-right x).row-right.is-row e
  where
    is-section : {n : ℕ} → not (eqb n 0) ≡ true → n ≡ 0 → ⊥
    is-section {n} h e = let z : not (eqb 0 0) ≡ true = rw e at h in clash (cc)

act-behind : (a : Act) → section (act a) ≢ 1
act-behind a e = omega (arith, act-section a)

has-shape : (before : Items) (x : Item) → fault before x ≡ 0 → section x ≢ 1 → last_section before ≢ 0
has-shape before x f other = follow-some (last_section before) (section x) (in_order before x f) other

pub shape-first : (before : Items) (s : Shape) → fault before (shape s) ≡ 0 → before ≡ none
unfolding last_section parts_of
shape-first none s h = refl
shape-first (after before x) s h = absurd (section-some x (follow-none (section x) (in_order (after before x) (shape s) h)))

pub shape-in : (s : Shape) → shape_fits s ≡ true → ShapeIn s
unfolding shape_fits
shape-in s h =
    let ks = both_true (both (leb 1 s.k) (leb s.k 4)) (both (both (leb 1 s.q) (leb s.q 4)) (leb s.w 8)) h in
    let k = both_true (leb 1 s.k) (leb s.k 4) ks.0 in
    let qs = both_true (both (leb 1 s.q) (leb s.q 4)) (leb s.w 8) ks.1 in
    let q = both_true (leb 1 s.q) (leb s.q 4) qs.0 in
    record {
      k-least = leb-true 1 s.k k.0;
      k-most = leb-true s.k 4 k.1;
      q-least = leb-true 1 s.q q.0;
      q-most = leb-true s.q 4 q.1;
      w-most = leb-true s.w 8 qs.1;
    }

pub shape-in-range : (before : Items) (s : Shape) → fault before (shape s) ≡ 0 → ShapeIn s
unfolding own_fault
shape-in-range before s h = shape-in s (unless-zero (shape_fits s) 4 (own-clean before (shape s) h))

-- what a request is refused for, t of them before it
abbrev pub request_fault : ℕ → ℕ → Request → ℕ
request_fault k t r = or_else (unless (ltb t 256) 9) (unless (request_fits k r) 7)

pub request-right : (k t : ℕ) (r : Request) → request_fault k t r ≡ 0 →
    (t < 256) × (r.engine < 2 ^ k) × (operands_fit r.operation r.first r.second ≡ true)
unfolding request_fits
request-right k t r h =
    let parts = or-else-zero _ _ h in
    let fits = both_true (ltb r.engine (2 ^ k)) (operands_fit r.operation r.first r.second) (unless-zero (request_fits k r) 6 parts.1) in
    (ltb-true t 256 (unless-zero (ltb t 256) 8 parts.0), ltb-true r.engine (2 ^ k) fits.0, fits.1)

fitting : (before : Items) (r : Request) → fault before (request r) ≡ 0 →
    (length (requests_of before) < 256) × (r.engine < 2 ^ (shape_of before).k) × (operands_fit r.operation r.first r.second ≡ true)
unfolding own_fault
fitting before r h = request-right (shape_of before).k (length (requests_of before)) r (own-clean before (request r) h)

pub requests-few : (before : Items) (r : Request) → fault before (request r) ≡ 0 → length (requests_of before) < 256
requests-few before r h = (fitting before r h).0

pub engine-below : (before : Items) (r : Request) → fault before (request r) ≡ 0 → r.engine < 2 ^ (shape_of before).k
engine-below before r h = (fitting before r h).1

-- each field fits its bytes
word_bytes : (w : Word) → FitsBytes (word w) → WordBytes w
unfolding parts_of
word_bytes w (field_fits a (field_fits v rest)) = record { address-low = a; value_low = v }

request-bytes : (r : Request) → FitsBytes (request r) → RequestBytes r
unfolding parts_of
request-bytes r (field_fits e (field_fits o (field_fits a (field_fits f (field_fits s rest))))) =
    record { engine-low = e; operation-low = o; address-low = a; first-low = f; second-low = s }

event-bytes : (e : Event) → FitsBytes (act (event e)) → EventBytes e
unfolding parts_of
event-bytes e (field_fits w (field_fits l (field_fits p rest))) = record { what-low = w; level-low = l; position-low = p }

drain-bytes : (rounds : ℕ) → FitsBytes (act (drain rounds)) → rounds < 65536
unfolding parts_of
drain-bytes rounds (field_fits low rest) = low

request-in : (before : Items) (r : Request) → RequestBytes r → fault before (request r) ≡ 0 → RequestIn (shape_of before).k r
request-in before r fits h = record { fits = fits; engine-below = (fitting before r h).1; operands = (fitting before r h).2 }

act-in : (before : Items) (a : Act) → FitsBytes (act a) → fault before (act a) ≡ 0 → ActIn (shape_of before).k a
unfolding own_fault parts_of
act-in before (event e) fits h =
    record { fits = event-bytes e fits; names = unless-zero (names_step (shape_of before).k e) 7 (own-clean before (act (event e)) h) }
act-in before (drain rounds) fits h = drain-bytes rounds fits

-- the same of items that need not have a shape yet
record Within (xs : Items) : Type 0 where
  shaped : last_section xs ≢ 0 → ShapeIn (shape_of xs)
  words-in : All WordBytes (words_given xs)
  few : length (requests_of xs) ≤ 256
  requests-in : All (RequestIn (shape_of xs).k) (requests_of xs)
  acts-in : All (ActIn (shape_of xs).k) (acts_of xs)

within : (xs : Items) → Valid xs → AllFitBytes xs → Within xs
unfolding contents add last_section
within none v fit = record { shaped = λ n. absurd (n refl); words-in = nil; few = omega arith; requests-in = nil; acts-in = nil }
within (after before (shape s)) (valid-after v f) (after-fit fit fits) =
    let i = within before v fit in
    let first = shape-first before s f in
    record {
      shaped = λ n. shape-in-range before s f;
      words-in = i.words-in;
      few = i.few;
      requests-in = subst (λ (b : Items). All (RequestIn s.k) (requests_of b)) (sym first) nil;
      acts-in = subst (λ (b : Items). All (ActIn s.k) (acts_of b)) (sym first) nil;
    }
within (after before (word w)) (valid-after v f) (after-fit fit fits) =
    let i = within before v fit in
    record {
      shaped = λ n. i.shaped (has-shape before (word w) f (λ e. omega (arith, word-section w)));
      words-in = all_more i.words-in (word_bytes w fits);
      few = i.few;
      requests-in = i.requests-in;
      acts-in = i.acts-in;
    }
within (after before (request r)) (valid-after v f) (after-fit fit fits) =
    let i = within before v fit in
    record {
      shaped = λ n. i.shaped (has-shape before (request r) f (λ e. omega (arith, request-section r)));
      words-in = i.words-in;
      few = omega (arith, requests-few before r f, length-append (requests_of before) (r ∷ []));
      requests-in = all_more i.requests-in (request-in before r (request-bytes r fits) f);
      acts-in = i.acts-in;
    }
within (after before (act a)) (valid-after v f) (after-fit fit fits) =
    let i = within before v fit in
    record {
      shaped = λ n. i.shaped (has-shape before (act a) f (act-behind a));
      words-in = i.words-in;
      few = i.few;
      requests-in = i.requests-in;
      acts-in = all_more i.acts-in (act-in before a fits f);
    }

-- of every accepted trace
pub accepted-in-range : (s : List ℕ) (xs : Items) → AreBytes s → check s ≡ accepted xs → InRange xs
unfolding last_section
accepted-in-range s xs are e = go xs (accepted-is s xs are e)
  where
    go : (ys : Items) → Accepted s ys → InRange ys
    go none a = absurd (a.some refl)
    go (after before x) a =
        let w = within (after before x) a.valid a.fit in
        record {
          shape-in = w.shaped (section-some x);
          words-in = w.words-in;
          requests-few = w.few;
          requests-in = w.requests-in;
          acts-in = w.acts-in;
        }
