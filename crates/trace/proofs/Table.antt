-- The table of records: each row is told by its kind and length, and making an item of its fields is the inverse of taking it apart.
use Prim.Native.Nat.{ℕ, zero, suc, ◌+◌, ◌<◌}
use mathlib.Core.Path.{◌≡◌, refl, ap, sym, ◌∙◌, subst}
use mathlib.Core.Logic.{◌≢◌, ◌⊎◌, inl, inr, ⊎_elim}
use mathlib.Core.Bool.{Bool, true, false}
use mathlib.Core.List.{List, [], ◌∷◌}
use native.Mathlib.Omega.{arith}
use lib.ListN.{length, get_or}
use lib.Dec.{ltb, eqb}
use borrow.Author.Tests.{ltb-true, eqb-true, ne_eqb}
use Rattle.lists.specs.Choice.{choose, both}
use Rattle.lists.specs.Search.{All, nil, cons}
use Rattle.lists.proofs.Tests.{both_true, clash, test-clash}
use Rattle.event.specs.Event.{Act, event, drain}
use Rattle.trace.specs.Bytes.{number, fields_in, total}
use Rattle.trace.specs.Item.{Word, Request, Item, shape, word, request, act}
use Rattle.trace.specs.Table.{Row, shape_row, word_row, request_row, event_row, drain_row, rows, body_size, no_row, is_row, first_row, kind_row, body_row}
use Rattle.trace.specs.Table.{item, Parts, parts_of, row_of, section, record_size}
use Rattle.trace.specs.Contents.{Contents, add}
use Rattle.trace.specs.Inner.Known.{shape_in, word_in, request_in, event_in, Bodied}
use Rattle.trace.proofs.Numbers.{number-one}
use Rattle.trace.proofs.Fields.{length_fields}

-- ---- what is right of a row
-- its kind and its size fit in two bytes, a body is not empty, and it is a row
abbrev sound : Row → Bool
sound r = both (ltb r.kind 65536) (both (ltb (body_size r) 65536) (both (ltb 0 (body_size r)) (is_row (kind_row r.kind))))

pub record RowRight (r : Row) : Type 0 where
  pub sizes : sound r ≡ true
  pub is-row : is_row r ≡ true
  pub found : body_row r.kind (body_size r) ≡ r
  pub back : (f : List ℕ) → length f ≡ length r.widths → parts_of (r.make f) ≡ record { row = r; fields = f }

-- a list of n elements, by its places
gather : ℕ → ℕ → List ℕ → List ℕ
gather zero i f = []
gather (suc n) i f = get_or f i 0 ∷ gather n (suc i) f

gather-behind : (n i x : ℕ) (f : List ℕ) → gather n (suc i) (x ∷ f) ≡ gather n i f
unfolding gather
gather-behind zero i x f = refl
gather-behind (suc n) i x f = ap (λ (l : List ℕ). get_or f i 0 ∷ l) (gather-behind n (suc i) x f)

gathered : (n : ℕ) (f : List ℕ) → length f ≡ n → gather n 0 f ≡ f
unfolding gather
gathered zero [] h = refl
gathered zero (x ∷ f) h = let z : ⊥ = omega arith in elim z [ ]
gathered (suc n) [] h = let z : ⊥ = omega arith in elim z [ ]
gathered (suc n) (x ∷ f) h = ap (λ (l : List ℕ). x ∷ l) (gather-behind n 0 x f ∙ gathered n f (omega arith))

-- ---- each row
abbrev with-fields : (r : Row) (n : ℕ) (f : List ℕ) → length f ≡ n →
    ◌≡◌ {A = Parts} (record { row = r; fields = gather n 0 f }) (record { row = r; fields = f })
with-fields r n f long = ap (λ (l : List ℕ). record { row = r; fields = l }) (gathered n f long)

right : (r : Row) → sound r ≡ true → is_row r ≡ true → body_row r.kind (body_size r) ≡ r →
    ((f : List ℕ) → length f ≡ length r.widths → parts_of (r.make f) ≡ record { row = r; fields = f }) → RowRight r
right r sizes is-row found back = record { sizes = sizes; is-row = is-row; found = found; back = back }

rows_right : All RowRight rows
unfolding rows kind_row body_row first_row total parts_of gather
rows_right =
    cons (right shape_row refl refl refl (with-fields shape_row 3))
    (cons (right word_row refl refl refl (with-fields word_row 2))
    (cons (right request_row refl refl refl (with-fields request_row 5))
    (cons (right event_row refl refl refl (with-fields event_row 3))
    (cons (right drain_row refl refl refl (with-fields drain_row 1)) nil))))

-- ---- what follows for any row that is found
no-row : {G : Type 0} → is_row no_row ≡ true → G
no-row e = clash (cc)

first-right : {P : Row → Type 0} (test : Row → Bool) {rs : List Row} → All P rs → is_row (first_row test rs) ≡ true →
    P (first_row test rs) × (test (first_row test rs) ≡ true)
unfolding first_row
first-right test nil is = no-row is
first-right {P} test (cons {x = r} {xs = rs} p ps) is = go (first-right test ps) (test r) refl is
  where
    go : (is_row (first_row test rs) ≡ true → P (first_row test rs) × (test (first_row test rs) ≡ true)) →
        (t : Bool) → test r ≡ t → is_row (choose t r (first_row test rs)) ≡ true →
        P (choose t r (first_row test rs)) × (test (choose t r (first_row test rs)) ≡ true)
    go on true e h = (p, e)
    go on false e h = on h

-- what a test says of each row
every : (Row → Bool) → List Row → Bool
every test [] = true
every test (r ∷ rs) = both (test r) (every test rs)

every-all : (test : Row → Bool) (rs : List Row) → every test rs ≡ true → All (λ (r : Row). test r ≡ true) rs
unfolding every
every-all test [] h = nil
every-all test (r ∷ rs) h = let p = both_true (test r) (every test rs) h in cons p.0 (every-all test rs p.1)

-- the row of a body: right, of its kind, and of its length
pub record Told (kind len : ℕ) : Type 0 where
  pub right : RowRight (body_row kind len)
  pub kind-is : kind ≡ (body_row kind len).kind
  pub size_is : len ≡ body_size (body_row kind len)

pub row_told : (kind len : ℕ) → is_row (body_row kind len) ≡ true → Told kind len
unfolding body_row
row_told kind len is =
    let found = first-right (λ r. both (eqb kind r.kind) (eqb len (body_size r))) rows_right is in
    let tests = both_true (eqb kind (body_row kind len).kind) (eqb len (body_size (body_row kind len))) found.1 in
    record { right = found.0; kind-is = eqb-true kind _ tests.0; size_is = eqb-true len _ tests.1 }

-- ---- the row of a kind: what holds of each row holds of it
pub kind-all : {P : Row → Type 0} → All P rows → (kind : ℕ) → is_row (kind_row kind) ≡ true → P (kind_row kind)
unfolding kind_row
kind-all ps kind is = (first-right (λ r. eqb kind r.kind) ps is).0

pub kind-right : (kind : ℕ) → is_row (kind_row kind) ≡ true → RowRight (kind_row kind)
kind-right = kind-all rows_right

pub kind-found : (kind : ℕ) → is_row (kind_row kind) ≡ true → kind ≡ (kind_row kind).kind
unfolding kind_row
kind-found kind is = eqb-true kind _ (first-right (λ r. eqb kind r.kind) rows_right is).1

-- and where there is none
none_found : (test : Row → Bool) {rs : List Row} → All RowRight rs → is_row (first_row test rs) ≡ false → first_row test rs ≡ no_row
unfolding first_row
none_found test nil is = refl
none_found test (cons {x = r} {xs = rs} p ps) is = go (none_found test ps) (test r) is
  where
    go : (is_row (first_row test rs) ≡ false → first_row test rs ≡ no_row) → (t : Bool) → is_row (choose t r (first_row test rs)) ≡ false →
        choose t r (first_row test rs) ≡ no_row
    go on true h = test-clash p.is-row h
    go on false h = on h

pub kind-none : (kind : ℕ) → is_row (kind_row kind) ≡ false → kind_row kind ≡ no_row
unfolding kind_row
kind-none kind = none_found (λ r. eqb kind r.kind) rows_right

-- ---- each item
pub record ItemRight (x : Item) : Type 0 where
  pub row-right : RowRight (row_of x)
  pub many : length (parts_of x).fields ≡ length (row_of x).widths
  pub made : (row_of x).make (parts_of x).fields ≡ x

-- where its row is the one that is found by kind and length
in_table : (x : Item) → body_row (row_of x).kind (body_size (row_of x)) ≡ row_of x → is_row (row_of x) ≡ true →
    length (parts_of x).fields ≡ length (row_of x).widths →
    (row_of x).make (parts_of x).fields ≡ x → ItemRight x
in_table x found is many made =
    record { row-right = subst RowRight found (row_told (row_of x).kind (body_size (row_of x)) (rw found is)).right; many = many; made = made }

pub item-right : (x : Item) → ItemRight x
unfolding rows body_row first_row total parts_of
item-right (shape s) = in_table (shape s) refl refl refl refl
item-right (word w) = in_table (word w) refl refl refl refl
item-right (request r) = in_table (request r) refl refl refl refl
item-right (act (event e)) = in_table (act (event e)) refl refl refl refl
item-right (act (drain rounds)) = in_table (act (drain rounds)) refl refl refl refl

-- what a body says, by its row
pub item-is : (kind : ℕ) (b : List ℕ) {r : Row} → body_row kind (length b) ≡ r → item kind b ≡ r.make (fields_in r.widths b 0)
unfolding item
item-is kind b e = ap (λ (r : Row). r.make (fields_in r.widths b 0)) e

-- an item that is read has the row and the fields that were read
pub parts-item : (kind : ℕ) (b : List ℕ) → is_row (body_row kind (length b)) ≡ true →
    parts_of (item kind b) ≡ record { row = body_row kind (length b); fields = fields_in (body_row kind (length b)).widths b 0 }
unfolding item
parts-item kind b is = (row_told kind (length b) is).right.back _ (length_fields (body_row kind (length b)).widths b 0)

pub row-item : (kind : ℕ) (b : List ℕ) → is_row (body_row kind (length b)) ≡ true → row_of (item kind b) ≡ body_row kind (length b)
row-item kind b is = ap (λ (p : Parts). p.row) (parts-item kind b is)

pub kind-item : (kind : ℕ) (b : List ℕ) → is_row (body_row kind (length b)) ≡ true → (row_of (item kind b)).kind ≡ kind
kind-item kind b is = ap (λ (r : Row). r.kind) (row-item kind b is) ∙ sym (row_told kind (length b) is).kind-is

pub section-item : {kind : ℕ} {b : List ℕ} → Bodied kind b → section (item kind b) ≡ (body_row kind (length b)).section
section-item {kind} {b} bodied = ap (λ (r : Row). r.section) (row-item kind b bodied.right)

pub body-item-size : (kind : ℕ) (b : List ℕ) → is_row (body_row kind (length b)) ≡ true → length b ≡ body_size (row_of (item kind b))
body-item-size kind b is = (row_told kind (length b) is).size_is ∙ sym (ap (λ (r : Row). body_size r) (row-item kind b is))

pub size-item : (kind : ℕ) (b : List ℕ) → is_row (body_row kind (length b)) ≡ true → record_size (item kind b) ≡ 4 + length b
unfolding record_size
size-item kind b is = omega (arith, body-item-size kind b is)

-- a row's numbers
pub record RowSizes (r : Row) : Type 0 where
  pub kind-low : r.kind < 65536
  pub size_low : body_size r < 65536
  pub some : 0 < body_size r
  pub known : is_row (kind_row r.kind) ≡ true

pub row-sizes : (r : Row) → RowRight r → RowSizes r
row-sizes r right =
    let a = both_true (ltb r.kind 65536) _ right.sizes in
    let b = both_true (ltb (body_size r) 65536) _ a.1 in
    let c = both_true (ltb 0 (body_size r)) _ b.1 in
    record { kind-low = ltb-true _ _ a.0; size_low = ltb-true _ _ b.0; some = ltb-true _ _ c.0; known = c.1 }

-- ---- what the body of each kind says, by its bytes
-- a kind of one length has bodies of that length alone
one-length : {n size : ℕ} (r : Row) (test : Bool) → eqb n size ≡ test → is_row (choose test r no_row) ≡ true → n ≡ size
one-length r true e is = eqb-true _ _ e
one-length r false e is = no-row is

-- a body of a kind with a row of one length has that length, and says that item
pub record Says (b : List ℕ) (kind size : ℕ) (x : Item) : Type 0 where
  pub long : length b ≡ size
  pub is : item kind b ≡ x

module _ {kind : ℕ} (b : List ℕ) where
  pub says-shape : kind ≡ 1 → is_row (body_row kind (length b)) ≡ true → Says b kind 3 (shape (shape_in b))
  unfolding rows first_row body_row total fields_in
  says-shape one is =
      let long : length b ≡ 3 = one-length shape_row (eqb (length b) 3) refl (rw one at is) in
      record { long = long; is = rw one (item-is 1 b (ap (body_row 1) long) ∙ rw (number-one b 0, number-one b 1, number-one b 2)) }

  pub says-word : kind ≡ 2 → is_row (body_row kind (length b)) ≡ true → Says b kind 9 (word (word_in b))
  unfolding rows first_row body_row total fields_in
  says-word two is =
      let long : length b ≡ 9 = one-length word_row (eqb (length b) 9) refl (rw two at is) in
      record { long = long; is = rw two (item-is 2 b (ap (body_row 2) long) ∙ rw (number-one b 0)) }

  pub says-request : kind ≡ 3 → is_row (body_row kind (length b)) ≡ true → Says b kind 19 (request (request_in b))
  unfolding rows first_row body_row total fields_in
  says-request three is =
      let long : length b ≡ 19 = one-length request_row (eqb (length b) 19) refl (rw three at is) in
      record { long = long; is = rw three (item-is 3 b (ap (body_row 3) long) ∙ rw (number-one b 0, number-one b 1, number-one b 2)) }

  pub says-event : kind ≡ 4 → is_row (body_row kind (length b)) ≡ true → Says b kind 3 (act (event (event_in b)))
  unfolding rows first_row body_row total fields_in
  says-event four is =
      let long : length b ≡ 3 = one-length event_row (eqb (length b) 3) refl (rw four at is) in
      record { long = long; is = rw four (item-is 4 b (ap (body_row 4) long) ∙ rw (number-one b 0, number-one b 1, number-one b 2)) }

  pub says-drain : kind ≡ 5 → is_row (body_row kind (length b)) ≡ true → Says b kind 2 (act (drain (number 2 b 0)))
  unfolding rows first_row body_row total fields_in
  says-drain five is =
      let long : length b ≡ 2 = one-length drain_row (eqb (length b) 2) refl (rw five at is) in
      record { long = long; is = rw five (item-is 5 b (ap (body_row 5) long)) }

-- ---- where items stand, whatever their row
pub word-section : (w : Word) → section (word w) ≡ 2
unfolding parts_of
word-section w = refl

pub request-section : (r : Request) → section (request r) ≡ 3
unfolding parts_of
request-section r = refl

pub act-section : (a : Act) → section (act a) ≡ 4
unfolding parts_of
act-section (event e) = refl
act-section (drain rounds) = refl

-- an item is an act, or it stands in a section before them and adds none
abbrev pub IsAct : Item → Type 0
IsAct x = (a : Act) × (x ≡ act a)

pub record Earlier (x : Item) : Type 0 where
  pub low : section x < 4
  pub adds_none : (c : Contents) → (add c x).acts ≡ c.acts

pub act-or-earlier : (x : Item) → IsAct x ⊎ Earlier x
unfolding parts_of add
act-or-earlier (shape s) = inr (record { low = omega arith; adds_none = λ c. refl })
act-or-earlier (word w) = inr (record { low = omega (arith, word-section w); adds_none = λ c. refl })
act-or-earlier (request r) = inr (record { low = omega (arith, request-section r); adds_none = λ c. refl })
act-or-earlier (act a) = inl (a, refl)

-- a row that is of none of the first three kinds is an act's
abbrev of_acts : Row → Bool
of_acts r = choose (eqb r.kind 1) true (choose (eqb r.kind 2) true (choose (eqb r.kind 3) true (eqb r.section 4)))

of-acts : (r : Row) → of_acts r ≡ true → r.kind ≢ 1 → r.kind ≢ 2 → r.kind ≢ 3 → r.section ≡ 4
of-acts r h n₁ n₂ n₃ = eqb-true r.section 4 (simp (ne_eqb r.kind 1 n₁, ne_eqb r.kind 2 n₂, ne_eqb r.kind 3 n₃) at h)

pub says-act : {kind : ℕ} (b : List ℕ) → kind ≢ 1 → kind ≢ 2 → kind ≢ 3 → is_row (body_row kind (length b)) ≡ true → IsAct (item kind b)
unfolding rows body_row every
says-act {kind} b n₁ n₂ n₃ is =
    let kind-is = (row_told kind (length b) is).kind-is in
    let test = (first-right (λ r. both (eqb kind r.kind) (eqb (length b) (body_size r))) (every-all of_acts rows refl) is).0 in
    let last = of-acts (body_row kind (length b)) test (λ e. n₁ (kind-is ∙ e)) (λ e. n₂ (kind-is ∙ e)) (λ e. n₃ (kind-is ∙ e)) in
    ⊎_elim (λ i. i) (λ x. absurd (omega (arith, x.low, ap (λ (r : Row). r.section) (row-item kind b is), last))) (act-or-earlier (item kind b))
