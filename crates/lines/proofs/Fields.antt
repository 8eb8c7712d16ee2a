-- Laws of the fields of a record, read one after another.
use Prim.Native.Nat.{ℕ, suc, ◌^◌, ◌<◌}
use mathlib.Core.Path.{◌≡◌, refl, sym, ◌∙◌, ap, subst}
use mathlib.Core.List.{List, [], ◌∷◌, ◌++◌, append-nil}
use native.Mathlib.Omega.{arith}
use lib.ListN.{length, get_or, take, drop, set, length-set, drop_of_length-le}
use lib.Seq.{take-suc, take-suc-set, take_all, drop-cons}
use Rattle.trace.specs.Table.{kind_row}
use Rattle.trace.specs.Inner.Fits.{FieldsFit, no_field, field_fits}
use Rattle.trace.specs.Inner.Kinds.{number_of_kind}
use Rattle.trace.specs.declared.kind.RecordKind.{RecordKind}
use Rattle.lines.specs.Forms.{names_at}
use Rattle.lines.specs.Said as L
use Rattle.lines.specs.Said.{Values, all, behind, fields, values_from, made}
use Rattle.lines.specs.Inner.Told.{width_at, told_at, told_then, in_front}
use Rattle.lines.specs.Inner.Read.{kind_says, SaidRead, FieldsRead}
use Rattle.lines.specs.declared.Reason.{Reason}
use Rattle.lines.specs.declared.Reason.TheVariants.{Missing, Extra}
use Rattle.lines.specs.declared.Wrong.{Wrong}
use Rattle.std.specs.Prelude.{Some, Ok, Err}
use Rattle.lines.proofs.Rows.{few-fields}
use Rattle.lines.proofs.Numbers.{then-told, told-fits}

-- ---- numbers in front
front-more : (vs : List ℕ) (v : ℕ) (rest : Values) → in_front (vs ++ (v ∷ [])) rest ≡ in_front vs (behind v rest)
front-more [] v rest = refl
front-more (x ∷ vs) v rest = ap (behind x) (front-more vs v rest)

front-wrong : (vs : List ℕ) (reason : Reason) (place : ℕ) → in_front vs (L.wrong reason place) ≡ L.wrong reason place
unfolding behind
front-wrong [] reason place = refl
front-wrong (x ∷ vs) reason place = ap (behind x) (front-wrong vs reason place)

front-all : (vs us : List ℕ) → in_front vs (all us) ≡ all (vs ++ us)
unfolding behind
front-all [] us = refl
front-all (x ∷ vs) us = ap (behind x) (front-all vs us)

fit-more : {ws vs : List ℕ} (w v : ℕ) → FieldsFit ws vs → v < 256 ^ w → FieldsFit (ws ++ (w ∷ [])) (vs ++ (v ∷ []))
fit-more w v no_field h = field_fits h no_field
fit-more w v (field_fits g t) h = field_fits g (fit-more w v t h)

-- ---- a kind's fields in a line
module _ (line : List ℕ) (k : RecordKind) where
  abbrev kind : ℕ
  kind = number_of_kind k

  pub fields-start : (values : List ℕ) → length values ≡ 5 → FieldsRead line kind values 0 line
  fields-start values l = record { many = omega arith; room = l; so_far = refl; fit = no_field }

  module _ {values : List ℕ} {place : ℕ} {rest : List ℕ} (so : FieldsRead line kind values place rest) where
    -- what is wrong behind the fields that are read is what is wrong with the line
    wrong-here : (w : Wrong) → w.place ≡ suc place →
        values_from kind place (drop place (kind_row kind).widths) (fields rest) ≡ L.wrong w.reason (suc place) →
        SaidRead (kind_says kind (fields line)) (Err w) values
    unfolding kind_says made
    wrong-here w p e = record {
      told =
          ap (made (kind_row kind)) (so.so_far ∙ ap (in_front (take place values)) e ∙ front-wrong (take place values) w.reason (suc place))
          ∙ ap (L.wrong w.reason) (sym p);
      room = so.room;
    }

    pub fields-missing : place < length (kind_row kind).widths → fields rest ≡ [] →
        SaidRead (kind_says kind (fields line)) (Err (record { reason = Missing; place = suc place })) values
    unfolding values_from
    fields-missing l e = wrong-here (record { reason = Missing; place = suc place }) refl (rw (drop-cons (kind_row kind).widths place 0 l, e))

    pub fields-extra : place ≡ length (kind_row kind).widths → (f : List ℕ) (fs : List (List ℕ)) → fields rest ≡ f ∷ fs →
        SaidRead (kind_says kind (fields line)) (Err (record { reason = Extra; place = suc place })) values
    unfolding values_from
    fields-extra l f fs e =
        wrong-here (record { reason = Extra; place = suc place }) refl (rw (drop_of_length-le (kind_row kind).widths {i = place} (omega arith), e))

    -- the field at hand, in front of the rest
    one_more : (f : List ℕ) (fs : List (List ℕ)) → place < length (kind_row kind).widths → fields rest ≡ f ∷ fs →
        values_from kind place (drop place (kind_row kind).widths) (fields rest) ≡
        told_then place (told_at kind place f) (values_from kind (suc place) (drop (suc place) (kind_row kind).widths) fs)
    unfolding values_from width_at
    one_more f fs l e =
        rw (drop-cons (kind_row kind).widths place 0 l, e)
        (then-told (names_at kind place) place (get_or (kind_row kind).widths place 0) f
        (values_from kind (suc place) (drop (suc place) (kind_row kind).widths) fs))

    pub fields-bad : (f : List ℕ) (fs : List (List ℕ)) (w : Wrong) → place < length (kind_row kind).widths → fields rest ≡ f ∷ fs →
        w.place ≡ suc place → Err w.reason ≡ told_at kind place f → SaidRead (kind_says kind (fields line)) (Err w) values
    fields-bad f fs w l e p b = wrong-here w p (one_more f fs l e ∙ rw (← b))

    pub fields-more : (f more : List ℕ) (n : ℕ) → place < length (kind_row kind).widths →
        fields rest ≡ f ∷ fields more → Ok n ≡ told_at kind place f →
        FieldsRead line kind (set values place n) (suc place) more
    unfolding width_at
    fields-more f more n l e v =
        let inside : place < length values = omega (arith, few-fields k, so.room) in
        let taken : take (suc place) (set values place n) ≡ take place values ++ (n ∷ []) = take-suc-set values place n inside in
        let others = values_from kind (suc place) (drop (suc place) (kind_row kind).widths) (fields more) in
        record {
          many = omega arith;
          room = length-set values place n ∙ so.room;
          so_far = so.so_far
              ∙ ap (in_front (take place values)) (one_more f (fields more) l e ∙ rw (← v) refl)
              ∙ sym (front-more (take place values) n others)
              ∙ ap (λ (vs : List ℕ). in_front vs others) (sym taken);
          fit = rw (taken, take-suc (kind_row kind).widths place 0 l)
              (fit-more (get_or (kind_row kind).widths place 0) n so.fit (told-fits k place n f l v));
        }

    pub fields-all : place ≡ length (kind_row kind).widths → fields rest ≡ [] →
        SaidRead (kind_says kind (fields line)) (Ok (Some k)) values
    unfolding kind_says made values_from
    fields-all l e =
        let none : drop place (kind_row kind).widths ≡ [] = drop_of_length-le (kind_row kind).widths {i = place} (omega arith) in
        let last : values_from kind place (drop place (kind_row kind).widths) (fields rest) ≡ all [] = rw (none, e) in
        let whole : values_from kind 0 (kind_row kind).widths (fields line) ≡ all (take place values) =
        so.so_far ∙ ap (in_front (take place values)) last ∙ front-all (take place values) [] ∙ ap all (append-nil (take place values)) in
        record {
          told = record {
            says_is = ap (made (kind_row kind)) whole ∙ ap (λ (n : ℕ). L.says ((kind_row kind).make (take n values))) l;
            fit = rw (← l) (subst (λ (ws : List ℕ). FieldsFit ws (take place values)) (take_all place (kind_row kind).widths (omega arith)) so.fit);
          };
          room = so.room;
        }
