-- Laws of the kinds of records: a kind of the table is one of five, and a name's row is the row of its kind.
use Prim.Native.Nat.{ℕ, ◌≤◌, ◌<◌, ◌^◌}
use mathlib.Core.Path.{◌≡◌, refl}
use mathlib.Core.Logic.{◌≢◌}
use mathlib.Core.Bool.{Bool, not}
use mathlib.Core.List.{List, [], ◌∷◌}
use native.Mathlib.Decide.{ℕ_discrete}
use native.Mathlib.Omega.{arith}
use lib.ListN.{length, get_or}
use lib.Dec.{eqb, ltb}
use Rattle.lists.specs.Choice.{choose, both}
use Rattle.lists.specs.Search.{All, nil, cons}
use Rattle.lists.proofs.Tests.{by_cases, either}
use Rattle.digits.specs.Numeral.{same}
use Rattle.trace.specs.Table.{Row, shape_row, word_row, request_row, event_row, drain_row, no_row, is_row, rows, first_row, kind_row}
use Rattle.trace.specs.Inner.Kinds.{number_of_kind}
use Rattle.trace.specs.declared.kind.RecordKind.{RecordKind}
use Rattle.trace.specs.declared.kind.RecordKind.TheVariants.{Shape, Word, Request, Event, Drain}
use Rattle.lines.specs.Forms.{Form, forms, row_named_in, row_named, operations, whats, names_at}
use Rattle.lines.specs.Inner.Told.{width_at}

-- a record has at most five fields
pub few-fields : (kind : RecordKind) → length (kind_row (number_of_kind kind)).widths ≤ 5
unfolding kind_row first_row rows
few-fields Shape = omega arith
few-fields Word = omega arith
few-fields Request = omega arith
few-fields Event = omega arith
few-fields Drain = omega arith

-- a number has at most five names
pub few-names : (kind place : ℕ) → length (names_at kind place) ≤ 5
unfolding names_at
few-names kind place =
    either (λ names. length names ≤ 5) (both (eqb kind 3) (eqb place 1)) {x = operations} (omega arith)
    (either (λ names. length names ≤ 5) (both (eqb kind 4) (eqb place 0)) {x = whats} {y = []} (omega arith) (omega arith))

-- ---- the row of a name
named-all : (P : Row → Type 0) (name : List ℕ) (fs : List Form) → All (λ (f : Form). P f.row) fs → P no_row → P (row_named_in name fs)
unfolding row_named_in
named-all P name [] a none = none
named-all P name (f ∷ fs) (cons h t) none = either P (same name f.name) h (named-all P name fs t none)

named-ind : (P : Row → Type 0) → P shape_row → P word_row → P request_row → P event_row → P drain_row → P no_row → (name : List ℕ) → P (row_named name)
unfolding forms
named-ind P one two three four five none name = named-all P name forms (cons one (cons two (cons three (cons four (cons five nil))))) none

pub named-row : (name : List ℕ) → kind_row (row_named name).kind ≡ row_named name
unfolding kind_row first_row rows
named-row = named-ind (λ (r : Row). kind_row r.kind ≡ r) refl refl refl refl refl refl

pub named-is : (name : List ℕ) → is_row (row_named name) ≡ not (eqb (row_named name).kind 0)
named-is = named-ind (λ (r : Row). is_row r ≡ not (eqb r.kind 0)) refl refl refl refl refl refl

-- ---- widths, kind by kind
-- the widths of a field at a place: words
pub word_width : (place : ℕ) → place < length (kind_row 2).widths → 256 ^ choose (ltb place 1) 1 8 ≡ 256 ^ width_at 2 place
unfolding kind_row first_row rows width_at
word_width place h =
    by_cases (ℕ_discrete place 0) (λ (e : place ≡ 0). rw e) (λ (a : place ≢ 0).
    let e : place ≡ 1 = omega arith in rw e)

pub request-width : (place : ℕ) → place < length (kind_row 3).widths → 256 ^ choose (ltb place 3) 1 8 ≡ 256 ^ width_at 3 place
unfolding kind_row first_row rows width_at
request-width place h =
    by_cases (ℕ_discrete place 0) (λ (e : place ≡ 0). rw e) (λ (a : place ≢ 0).
    by_cases (ℕ_discrete place 1) (λ (e : place ≡ 1). rw e) (λ (b : place ≢ 1).
    by_cases (ℕ_discrete place 2) (λ (e : place ≡ 2). rw e) (λ (d : place ≢ 2).
    by_cases (ℕ_discrete place 3) (λ (e : place ≡ 3). rw e) (λ (f : place ≢ 3).
    let e : place ≡ 4 = omega arith in rw e))))

pub operand-width : (kind : RecordKind) (place : ℕ) → kind ≡ Request → 3 ≤ place → place < length (kind_row (number_of_kind kind)).widths →
    2 ^ 64 ≡ 256 ^ width_at (number_of_kind kind) place
unfolding kind_row first_row rows width_at
operand-width kind place e low = rw e (λ h. by_cases (ℕ_discrete place 3) (λ (e : place ≡ 3). rw e) (λ (n : place ≢ 3).
    let e : place ≡ 4 = omega arith in rw e))

pub drain-width : (place : ℕ) → place < length (kind_row 5).widths → 65536 ≡ 256 ^ width_at 5 place
unfolding kind_row first_row rows width_at
drain-width place h = let e : place ≡ 0 = omega arith in rw e

-- shapes and events
one-or-more : (b : Bool) → 256 ≤ 256 ^ choose b 1 8
one-or-more b = either (λ n. 256 ≤ 256 ^ n) b (omega arith) (omega arith)

three-bytes : (kind place : ℕ) → (kind_row kind).widths ≡ 1 ∷ 1 ∷ 1 ∷ [] → place < length (kind_row kind).widths → 256 ≡ 256 ^ width_at kind place
unfolding width_at
three-bytes kind place e h = rw e (go (rw e at h))
  where
    go : place < 3 → 256 ≡ 256 ^ get_or (1 ∷ 1 ∷ 1 ∷ []) place 0
    go l = by_cases (ℕ_discrete place 0) (λ (e : place ≡ 0). rw e) (λ (a : place ≢ 0).
        by_cases (ℕ_discrete place 1) (λ (e : place ≡ 1). rw e) (λ (b : place ≢ 1).
        let e : place ≡ 2 = omega arith in rw e))

-- the fields of one byte: the rest of a word, and the front of a request
one-of-three : (place : ℕ) → place < 3 → 256 ≡ 256 ^ width_at 3 place
unfolding kind_row first_row rows width_at
one-of-three place l =
    by_cases (ℕ_discrete place 0) (λ (e : place ≡ 0). rw e) (λ (a : place ≢ 0).
    by_cases (ℕ_discrete place 1) (λ (e : place ≡ 1). rw e) (λ (b : place ≢ 1).
    let e : place ≡ 2 = omega arith in rw e))

pub narrow-width : (kind : RecordKind) (place : ℕ) → place < length (kind_row (number_of_kind kind)).widths →
    (kind ≡ Word → place ≢ 1) → (kind ≡ Request → place ≢ 3) → (kind ≡ Request → place ≢ 4) → kind ≢ Drain → 256 ≡ 256 ^ width_at (number_of_kind kind) place
unfolding kind_row first_row rows width_at
narrow-width Shape place l a b d n = three-bytes 1 place refl l
narrow-width Word place l a b d n = let e : place ≡ 0 = omega (arith, a refl) in rw e
narrow-width Request place l a b d n = one-of-three place (omega (arith, b refl, d refl))
narrow-width Event place l a b d n = three-bytes 4 place refl l
narrow-width Drain place l a b d n = absurd (n refl)

-- a field has a byte at least
pub some-width : (kind : RecordKind) (place : ℕ) → place < length (kind_row (number_of_kind kind)).widths → 256 ≤ 256 ^ width_at (number_of_kind kind) place
unfolding kind_row first_row rows
some-width Shape place l = omega (arith, three-bytes 1 place refl l)
some-width Word place l = omega (arith, word_width place l, one-or-more (ltb place 1))
some-width Request place l = omega (arith, request-width place l, one-or-more (ltb place 3))
some-width Event place l = omega (arith, three-bytes 4 place refl l)
some-width Drain place l = omega (arith, drain-width place l)
