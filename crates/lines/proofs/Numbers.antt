-- Laws of the number that a field has, as the code tells it.
use Prim.Native.Nat.{ℕ, suc, ◌+◌, ◌^◌, ◌≤◌, ◌<◌}
use mathlib.Core.Path.{◌≡◌, refl, ◌∙◌, ap}
use mathlib.Core.Bool.{Bool, true, false}
use mathlib.Core.List.{List}
use native.Mathlib.Omega.{arith}
use lib.ListN.{length}
use lib.Dec.{ltb}
use borrow.Author.Tests.{lt-ltb, le-ltb, ltb-true, ltb-false}
use Rattle.lists.specs.Choice.{choose}
use Rattle.lists.proofs.Tests.{clash}
use Rattle.digits.specs.Numeral.{value_in, is_decimal}
use Rattle.digits.specs.Inner.Value.{spelled}
use Rattle.digits.specs.declared.read.NumberError.{NumberError}
use Rattle.digits.specs.declared.read.NumberError.TheVariants as N
use Rattle.std.specs.Prelude.{Some, None, Result, Ok, Err}
use Rattle.trace.specs.Table.{kind_row}
use Rattle.trace.specs.Inner.Kinds.{number_of_kind}
use Rattle.trace.specs.declared.kind.RecordKind.{RecordKind}
use Rattle.lines.specs.Forms.{names_at, place_in}
use Rattle.lines.specs.Said.{Values, wrong, behind, number_then, field_then}
use Rattle.lines.specs.Inner.Told.{reason_of, named_in, number_told, field_told, width_at, told_at, told_then}
use Rattle.lines.specs.declared.Reason.TheVariants.{NoNumber, TooLarge}
use Rattle.lines.specs.declared.Reason.{Reason}
use Rattle.lines.proofs.Rows.{few-names, some-width}

-- ---- numbers
pub error-told : (bound : ℕ) (f : List ℕ) (e : NumberError) → bound ≤ 2 ^ 64 → Err e ≡ spelled f → Err (reason_of e) ≡ number_told bound f
unfolding spelled number_told
error-told bound f e l s = go (is_decimal f) (ltb (value_in 10 f) (2 ^ 64)) refl s
  where
    go : (a b : Bool) → ltb (value_in 10 f) (2 ^ 64) ≡ b → Err e ≡ choose a (choose b (Ok (value_in 10 f)) (Err N.TooLarge)) (Err N.NoNumber) →
        Err (reason_of e) ≡ choose a (choose (ltb (value_in 10 f) bound) (Ok (value_in 10 f)) (Err TooLarge)) (Err NoNumber)
    go true true q s = clash (cc)
    go true false q s =
        let is : e ≡ N.TooLarge = cc in
        let large = ltb-false (value_in 10 f) (2 ^ 64) q in rw (is, le-ltb (value_in 10 f) bound (omega arith))
    go false b q s = let is : e ≡ N.NoNumber = cc in rw is

spelled-number : (f : List ℕ) (n : ℕ) → Ok n ≡ spelled f → (is_decimal f ≡ true) × (n ≡ value_in 10 f)
unfolding spelled
spelled-number f n e = go (is_decimal f) (ltb (value_in 10 f) (2 ^ 64)) e
  where
    go : (a b : Bool) → Ok n ≡ choose a (choose b (Ok (value_in 10 f)) (Err N.TooLarge)) (Err N.NoNumber) → (a ≡ true) × (n ≡ value_in 10 f)
    go true true e = (refl, cc)
    go true false e = clash (cc)
    go false b e = clash (cc)

pub too-large-told : (largest : ℕ) (f : List ℕ) (n : ℕ) → Ok n ≡ spelled f → largest < n → Err TooLarge ≡ number_told (largest + 1) f
unfolding number_told
too-large-told largest f n e l =
    let z = spelled-number f n e in
    let large : largest + 1 ≤ value_in 10 f = omega (arith, z.1) in
    rw (z.0, le-ltb _ _ large)

pub value-told : (largest : ℕ) (f : List ℕ) (n : ℕ) → Ok n ≡ spelled f → n ≤ largest → Ok n ≡ number_told (largest + 1) f
unfolding number_told
value-told largest f n e l =
    let z = spelled-number f n e in
    let small : value_in 10 f < largest + 1 = omega (arith, z.1) in
    rw (z.0, lt-ltb _ _ small) (ap (λ (v : ℕ). Ok v) z.1)

-- ---- names
pub unnamed_told : (kind place largest : ℕ) (f : List ℕ) {t : Result ℕ Reason} → None ≡ named_in (names_at kind place) f →
    largest + 1 ≡ 256 ^ width_at kind place → t ≡ number_told (largest + 1) f → t ≡ told_at kind place f
unfolding named_in field_told
unnamed_told kind place largest f {t} e w n = go (ltb (place_in f (names_at kind place)) (length (names_at kind place))) e
  where
    go : (b : Bool) → None ≡ choose b (Some (place_in f (names_at kind place))) None →
        t ≡ choose b (Ok (place_in f (names_at kind place))) (number_told (256 ^ width_at kind place) f)
    go true e = clash (cc)
    go false e = n ∙ ap (λ (bound : ℕ). number_told bound f) w

pub named-told : (kind place : ℕ) (f : List ℕ) (n : ℕ) → Some n ≡ named_in (names_at kind place) f → Ok n ≡ told_at kind place f
unfolding named_in field_told
named-told kind place f n e = go (ltb (place_in f (names_at kind place)) (length (names_at kind place))) e
  where
    go : (b : Bool) → Some n ≡ choose b (Some (place_in f (names_at kind place))) None →
        Ok n ≡ choose b (Ok (place_in f (names_at kind place))) (number_told (256 ^ width_at kind place) f)
    go true e = cc
    go false e = clash (cc)

-- ---- a field in front of the rest
pub then-told : (names : List (List ℕ)) (place width : ℕ) (f : List ℕ) (rest : Values) →
    field_then names place width f rest ≡ told_then place (field_told names (256 ^ width) f) rest
unfolding field_then number_then field_told number_told
then-told names place width f rest = go (ltb (place_in f names) (length names)) (is_decimal f) (ltb (value_in 10 f) (256 ^ width))
  where
    go : (a b c : Bool) →
        choose a (behind (place_in f names) rest)
        (choose b (choose c (behind (value_in 10 f) rest) (wrong TooLarge (suc place))) (wrong NoNumber (suc place))) ≡
        told_then place (choose a (Ok (place_in f names)) (choose b (choose c (Ok (value_in 10 f)) (Err TooLarge)) (Err NoNumber))) rest
    go true b c = refl
    go false true true = refl
    go false true false = refl
    go false false c = refl

-- a number that is told fits its field
pub told-fits : (k : RecordKind) (place n : ℕ) (f : List ℕ) → place < length (kind_row (number_of_kind k)).widths → Ok n ≡ told_at (number_of_kind k) place f →
    n < 256 ^ width_at (number_of_kind k) place
unfolding field_told number_told
told-fits k place n f l e =
    go (ltb (place_in f (names_at kind place)) (length (names_at kind place))) refl (is_decimal f) (ltb (value_in 10 f) (256 ^ width_at kind place)) refl e
  where
    kind : ℕ
    kind = number_of_kind k

    go : (a : Bool) → ltb (place_in f (names_at kind place)) (length (names_at kind place)) ≡ a → (b c : Bool) →
        ltb (value_in 10 f) (256 ^ width_at kind place) ≡ c →
        Ok n ≡ choose a (Ok (place_in f (names_at kind place))) (choose b (choose c (Ok (value_in 10 f)) (Err TooLarge)) (Err NoNumber)) →
        n < 256 ^ width_at kind place
    go true p b c q e = let is : n ≡ place_in f (names_at kind place) = cc in
        omega (arith, is, ltb-true (place_in f (names_at kind place)) (length (names_at kind place)) p, few-names kind place, some-width k place l)
    go false p true true q e = let is : n ≡ value_in 10 f = cc in omega (arith, is, ltb-true (value_in 10 f) (256 ^ width_at kind place) q)
    go false p true false q e = clash (cc)
    go false p false c q e = clash (cc)
