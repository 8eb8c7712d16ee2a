-- The round trip of one line: what a line of the listing says, when it is read, is the item that it was printed of.
use Prim.Native.Nat.{ℕ, zero, suc, ◌^◌, ◌≤◌, ◌<◌}
use mathlib.Core.Path.{◌≡◌, refl, sym, ◌∙◌, ap}
use mathlib.Core.Logic.{◌≢◌}
use mathlib.Core.Bool.{Bool, true, false}
use mathlib.Core.List.{List, [], ◌∷◌, ◌++◌, append_assoc, append-nil}
use native.Mathlib.Omega.{arith}
use lib.ListN.{length, get_or, get_or-eq_default}
use lib.Dec.{eqb, ltb}
use borrow.Author.Tests.{ltb-true, ne_eqb, lt-ltb, le-ltb}
use Rattle.lists.specs.Choice.{both}
use Rattle.lists.specs.Search.{All, nil, cons}
use Rattle.lists.proofs.Tests.{below-cases, both_true, either}
use Rattle.lists.proofs.Every.{all_append, all_map}
use Rattle.digits.specs.Numeral.{bytes_of, same, digit, decimal}
use Rattle.digits.specs.Line.{line}
use Rattle.digits.proofs.Numerals.{numeral-some, numeral-digits, numeral-value}
use Rattle.digits.proofs.Spelling.{decimal-read}
use Rattle.event.specs.Event.{event, drain}
use Rattle.trace.specs.Item.{Item, shape, word, request, act}
use Rattle.trace.specs.Table.{Row, parts_of, row_of}
use Rattle.trace.specs.Inner.Fits.{FieldsFit, no_field, field_fits, FitsBytes}
use Rattle.trace.proofs.Table.{item-right}
use Rattle.lines.specs.Forms.{forms, row_named_in, row_named, name_in, name_of, operations, whats, names_at, place_in}
use Rattle.lines.specs.Said.{Values, all, behind, number_then, field_then, values_from, says, made, fields_say, line_says}
use Rattle.listing.specs.Listing.{shown_from, parts_line, item_line}
use Rattle.listing.specs.Inner.Again.{following, parts_unended, unended, Plain}
use Rattle.listing.proofs.Fields.{fields-are}

-- ---- fields
-- each byte above a space's
above : List ℕ → Bool
above [] = true
above (c ∷ f) = both (ltb 32 c) (above f)

all_above : (f : List ℕ) → above f ≡ true → All (λ c. 32 < c) f
unfolding above
all_above [] h = nil
all_above (c ∷ f) h = let b = both_true (ltb 32 c) (above f) h in cons (ltb-true 32 c b.0) (all_above f b.1)

plain-decimal : (n : ℕ) → Plain (decimal n)
unfolding digit
plain-decimal n = record { some = numeral-some 10 (omega arith) n; above = all_map (λ d h. omega (arith, h.0)) (numeral-digits 10 (omega arith) n) }

-- ---- names
-- a name is a field that begins above the digits
record Named (f : List ℕ) : Type 0 where
  letter : 57 < get_or f 0 0
  plain : Plain f

is_name : List ℕ → Bool
is_name f = both (ltb 57 (get_or f 0 0)) (above f)

named : (f : List ℕ) → is_name f ≡ true → Named f
unfolding is_name
named f h =
    let b = both_true (ltb 57 (get_or f 0 0)) (above f) h in
    let letter = ltb-true 57 (get_or f 0 0) b.0 in
    record { letter = letter; plain = record { some = some f letter; above = all_above f b.1 } }
  where
    some : (f : List ℕ) → 57 < get_or f 0 0 → 0 < length f
    some [] l = absurd (omega arith)
    some (c ∷ f) l = omega arith

are_names : List (List ℕ) → Bool
are_names [] = true
are_names (f ∷ fs) = both (is_name f) (are_names fs)

all_named : (fs : List (List ℕ)) → are_names fs ≡ true → All Named fs
unfolding are_names
all_named [] h = nil
all_named (f ∷ fs) h = let b = both_true (is_name f) (are_names fs) h in cons (named f b.0) (all_named fs b.1)

-- no number is a name
first-low : (l : List ℕ) → All (λ d. (digit 0 ≤ d) × (d < digit 10)) l → get_or l 0 0 < 58
unfolding digit
first-low [] nil = omega arith
first-low (d ∷ l) (cons h hs) = omega (arith, h.1)

first-apart : (s t : List ℕ) → 0 < length s → get_or s 0 0 < 58 → 57 < get_or t 0 0 → same s t ≡ false
unfolding same
first-apart [] t some low high = absurd (omega arith)
first-apart (c ∷ s) [] some low high = absurd (omega arith)
first-apart (c ∷ s) (d ∷ t) some low high = rw (ne_eqb c d (λ e. omega arith))

number-unnamed : (n : ℕ) {names : List (List ℕ)} → All Named names → place_in (decimal n) names ≡ length names
unfolding place_in
number-unnamed n nil = refl
number-unnamed n (cons {x = name} h hs) =
    let low = first-low (decimal n) (numeral-digits 10 (omega arith) n) in
    rw (first-apart (decimal n) name (numeral-some 10 (omega arith) n) low h.letter) (ap suc (number-unnamed n hs))

-- names that are told from numbers, and from one another
record NamesRight (names : List (List ℕ)) : Type 0 where
  are : All Named names
  apart : (v : ℕ) (d : List ℕ) → v < length names → place_in (get_or names v d) names ≡ v

operations-right : NamesRight operations
unfolding bytes_of above is_name are_names same place_in
operations-right = record { are = all_named operations refl; apart = at }
  where
    at : (v : ℕ) (d : List ℕ) → v < 4 → place_in (get_or operations v d) operations ≡ v
    at zero d l = refl
    at (suc zero) d l = refl
    at (suc (suc zero)) d l = refl
    at (suc (suc (suc zero))) d l = refl
    at (suc (suc (suc (suc v)))) d l = absurd (omega arith)

whats-right : NamesRight whats
unfolding bytes_of above is_name are_names same place_in
whats-right = record { are = all_named whats refl; apart = at }
  where
    at : (v : ℕ) (d : List ℕ) → v < 5 → place_in (get_or whats v d) whats ≡ v
    at zero d l = refl
    at (suc zero) d l = refl
    at (suc (suc zero)) d l = refl
    at (suc (suc (suc zero))) d l = refl
    at (suc (suc (suc (suc zero)))) d l = refl
    at (suc (suc (suc (suc (suc v))))) d l = absurd (omega arith)

none_right : NamesRight []
none_right = record { are = nil; apart = λ v d l. absurd (omega arith) }

names-right : (kind place : ℕ) → NamesRight (names_at kind place)
unfolding names_at
names-right kind place =
    either NamesRight (both (eqb kind 3) (eqb place 1)) operations-right (either NamesRight (both (eqb kind 4) (eqb place 0)) whats-right none_right)

-- ---- what is shown
shown-plain : {names : List (List ℕ)} → All Named names → (v : ℕ) (d : List ℕ) → Plain d → Plain (get_or names v d)
shown-plain nil v d p = p
shown-plain (cons h hs) zero d p = h.plain
shown-plain (cons h hs) (suc v) d p = shown-plain hs v d p

all_plain : (kind place : ℕ) (vs : List ℕ) → All Plain (shown_from kind place vs)
unfolding shown_from
all_plain kind place [] = nil
all_plain kind place (v ∷ vs) =
    cons (shown-plain (names-right kind place).are v (decimal v) (plain-decimal v)) (all_plain kind (suc place) vs)

-- a number is read as it was shown
number_read : (place width v : ℕ) (rest : Values) → v < 256 ^ width → number_then place width (decimal v) rest ≡ behind v rest
unfolding number_then
number_read place width v rest low = rw (decimal-read v, numeral-value 10 (omega arith) v, lt-ltb v (256 ^ width) low)

shown_read : {names : List (List ℕ)} → NamesRight names → (place width v : ℕ) (rest : Values) → v < 256 ^ width →
    field_then names place width (get_or names v (decimal v)) rest ≡ behind v rest
unfolding field_then
shown_read {names} right place width v rest low =
    below-cases v (length names)
    (λ (l : v < length names). rw (right.apart v (decimal v) l, lt-ltb v (length names) l))
    (λ (h : length names ≤ v).
    rw (get_or-eq_default names (decimal v) {n = v} h, number-unnamed v right.are, le-ltb (length names) (length names) (omega arith))
    (number_read place width v rest low))

values-read : (kind place : ℕ) {widths fields : List ℕ} → FieldsFit widths fields →
    values_from kind place widths (shown_from kind place fields) ≡ all fields
unfolding values_from shown_from behind
values-read kind place no_field = refl
values-read kind place (field_fits {width = width} {field = v} {widths = widths} {fields = vs} low fit) =
    shown_read (names-right kind place) place width v (values_from kind (suc place) widths (shown_from kind (suc place) vs)) low
    ∙ ap (behind v) (values-read kind (suc place) fit)

-- ---- lines
-- a record's name is a name, and that of its row
record RowNamed (r : Row) : Type 0 where
  name : Named (name_of r.kind)
  row_is : row_named (name_of r.kind) ≡ r

row-named : (x : Item) → RowNamed (row_of x)
unfolding parts_of bytes_of same forms row_named_in name_in above is_name
row-named (shape s) = record { name = named _ refl; row_is = refl }
row-named (word w) = record { name = named _ refl; row_is = refl }
row-named (request r) = record { name = named _ refl; row_is = refl }
row-named (act (event e)) = record { name = named _ refl; row_is = refl }
row-named (act (drain rounds)) = record { name = named _ refl; row_is = refl }

-- the line is what it is without its newline, and that
line-following : (f : List ℕ) (fs : List (List ℕ)) → line (f ∷ fs) ≡ (f ++ following fs) ++ bytes_of "\n"
unfolding following bytes_of
line-following f [] = ap (λ (l : List ℕ). l ++ (10 ∷ [])) (sym (append-nil f))
line-following f (g ∷ gs) =
    ap (λ (l : List ℕ). (f ++ (32 ∷ [])) ++ l) (line-following g gs)
    ∙ append_assoc f (32 ∷ []) ((g ++ following gs) ++ (10 ∷ []))
    ∙ sym (append_assoc f (32 ∷ (g ++ following gs)) (10 ∷ []))

pub line-unended : (x : Item) → item_line x ≡ unended x ++ bytes_of "\n"
unfolding parts_line parts_unended
line-unended x = line-following (name_of (row_of x).kind) (shown_from (row_of x).kind 0 (parts_of x).fields)

-- no newline stands before its end
following-above : {fs : List (List ℕ)} → All Plain fs → All (λ c. c ≢ 10) (following fs)
unfolding following
following-above nil = nil
following-above (cons p ps) = cons {x = 32} (λ e. omega arith) (all_append (all_map (λ c h e. omega arith) p.above) (following-above ps))

pub no-newline : (x : Item) → All (λ c. c ≢ 10) (unended x)
unfolding parts_unended
no-newline x =
    all_append (all_map (λ c h e. omega arith) (row-named x).name.plain.above)
    (following-above (all_plain (row_of x).kind 0 (parts_of x).fields))

-- what begins with a letter is no comment
no-comment : (f rest : List ℕ) → 57 < get_or f 0 0 → eqb (get_or (f ++ rest) 0 0) 35 ≡ false
no-comment [] rest h = absurd (omega arith)
no-comment (c ∷ f) rest h = ne_eqb c 35 (λ e. omega arith)

-- and it says the item
pub again : (x : Item) → FitsBytes x → line_says (unended x) ≡ says x
unfolding parts_unended line_says fields_say made
again x fit =
    let name = name_of (row_of x).kind in
    let shown = shown_from (row_of x).kind 0 (parts_of x).fields in
    let r = row-named x in
    let right = item-right x in
    rw (
      no-comment name (following shown) r.name.letter,
      fields-are name shown r.name.plain (all_plain (row_of x).kind 0 (parts_of x).fields),
      r.row_is,
      right.row-right.is-row,
      values-read (row_of x).kind 0 fit,
    )
    (ap says right.made)
