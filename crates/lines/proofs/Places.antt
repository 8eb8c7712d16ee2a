-- Laws of a name's place among names.
use Prim.Native.Nat.{ℕ, suc}
use mathlib.Core.Path.{◌≡◌, refl, ap, ◌∙◌}
use mathlib.Core.Bool.{Bool, true, false}
use mathlib.Core.List.{List, [], ◌∷◌}
use lib.ListN.{length}
use lib.Dec.{ltb, eqb}
use lib.Pointwise.{pointwise}
use Rattle.lists.specs.Choice.{choose, both}
use Rattle.lists.proofs.Tests.{test-cases}
use Rattle.digits.specs.Numeral.{bytes_of, same}
use Rattle.trace.specs.Table.{shape_row, word_row, request_row, event_row, drain_row, no_row, is_row}
use Rattle.lines.specs.Forms.{forms, row_named_in, names_at, place_in}
use Rattle.lines.specs.Inner.Told.{kind_told, named_in}
use Rattle.std.proofs.Common.{◌+◌, ◌&&◌, not, cond, one-add, Some, None, position}
use Rattle.std.specs.List.{position_or_len}
use Rattle.std.specs.Option.{option_map}

-- ---- the names of records
abbrev pub record_names : List (List ℕ)
record_names = bytes_of "shape" ∷ bytes_of "word" ∷ bytes_of "request" ∷ bytes_of "event" ∷ bytes_of "drain" ∷ []

-- the place of the first test that is met
abbrev place_by : Bool → Bool → Bool → Bool → Bool → ℕ
place_by a b c d e = choose a 0 (suc (choose b 0 (suc (choose c 0 (suc (choose d 0 (suc (choose e 0 1))))))))

-- kinds count from 1 in the order of the names
pub kind-is : (name : List ℕ) → option_map suc (named_in record_names name) ≡ kind_told name
unfolding forms row_named_in place_in named_in kind_told
kind-is name = go (same name (bytes_of "shape")) (same name (bytes_of "word")) (same name (bytes_of "request"))
    (same name (bytes_of "event")) (same name (bytes_of "drain"))
  where
    go : (a b c d e : Bool) →
        option_map suc (choose (ltb (place_by a b c d e) 5) (Some (place_by a b c d e)) None) ≡
        choose (is_row (choose a shape_row (choose b word_row (choose c request_row (choose d event_row (choose e drain_row no_row))))))
        (Some (choose a shape_row (choose b word_row (choose c request_row (choose d event_row (choose e drain_row no_row))))).kind) None
    go true b c d e = refl
    go false true c d e = refl
    go false false true d e = refl
    go false false false true e = refl
    go false false false false true = refl
    go false false false false false = refl

-- ---- as a chain of iterators seeks it
same-bytes : (s t : List ℕ) → pointwise eqb s t ≡ same s t
unfolding same
same-bytes [] [] = refl
same-bytes [] (d ∷ t) = refl
same-bytes (c ∷ s) [] = refl
same-bytes (c ∷ s) (d ∷ t) = test-cases (λ (b : Bool). (b && pointwise eqb s t) ≡ both b (same s t)) (eqb c d) (λ e. same-bytes s t) (λ e. refl)

place-prefix : (name : List ℕ) (names : List (List ℕ)) → position_or_len (λ other. pointwise eqb name other) names ≡ place_in name names
unfolding place_in
place-prefix name [] = refl
place-prefix name (n ∷ names) =
    let count = position_or_len (λ other. pointwise eqb name other) names in
    ap (λ (b : Bool). cond (not b) (1 + count) 0) (same-bytes name n)
    ∙ test-cases (λ (b : Bool). cond (not b) (1 + count) 0 ≡ choose b 0 (suc (place_in name names))) (same name n)
    (λ e. refl) (λ e. rw one-add (ap suc (place-prefix name names)))

pub position-named : (name : List ℕ) (names : List (List ℕ)) → position (λ other. pointwise eqb name other) names ≡ named_in names name
unfolding named_in
position-named name names = ap (λ (p : ℕ). choose (ltb p (length names)) (Some p) None) (place-prefix name names)

pub none-named : (kind place : ℕ) (name : List ℕ) → both (eqb kind 3) (eqb place 1) ≡ false → both (eqb kind 4) (eqb place 0) ≡ false →
    None ≡ named_in (names_at kind place) name
unfolding names_at named_in place_in
none-named kind place name a b = rw (a, b)
