-- Laws of a line as a whole: what stands first decides.
use Prim.Native.Nat.{ℕ}
use mathlib.Core.Path.{◌≡◌, refl, sym, ◌∙◌, ap, subst}
use mathlib.Core.Logic.{◌≢◌}
use mathlib.Core.Bool.{Bool, true, false}
use mathlib.Core.List.{List, [], ◌∷◌}
use lib.ListN.{length, get_or}
use lib.Dec.{eqb}
use borrow.Author.Tests.{ne_eqb}
use Rattle.lists.specs.Choice.{choose}
use Rattle.lists.proofs.Tests.{clash, test-clash}
use Rattle.trace.specs.Table.{Row, is_row, kind_row}
use Rattle.trace.specs.Inner.Kinds.{number_of_kind, KindTold}
use Rattle.trace.specs.declared.Fault.{Fault}
use Rattle.trace.specs.declared.kind.RecordKind.{RecordKind}
use Rattle.lines.specs.Forms.{row_named}
use Rattle.lines.specs.Said as L
use Rattle.lines.specs.Said.{fields, values_from, made, fields_say, line_says}
use Rattle.lines.specs.Inner.Told.{kind_told, named_in}
use Rattle.lines.specs.Inner.Read.{kind_says, SaidRead, LineRead}
use Rattle.lines.specs.declared.Reason.TheVariants.{Name}
use Rattle.lines.specs.declared.Wrong.{Wrong}
use Rattle.std.proofs.Common.{◌+◌, suc, add-one}
use Rattle.std.specs.Option.{option_map}
use Rattle.std.specs.Prelude.{Option, Some, None, Result, Ok, Err}
use Rattle.std.specs.Result.{result_ok}
use Rattle.lines.proofs.Places.{record_names, kind-is}
use Rattle.lines.proofs.Rows.{named-row, named-is}

-- the row of a name that some record has, and of one that none has
some-kind : (name : List ℕ) {kind : ℕ} → Some kind ≡ kind_told name → (is_row (row_named name) ≡ true) × (kind ≡ (row_named name).kind)
unfolding kind_told
some-kind name {kind} e = go (is_row (row_named name)) e
  where
    go : (b : Bool) → Some kind ≡ choose b (Some (row_named name).kind) None → (b ≡ true) × (kind ≡ (row_named name).kind)
    go true e = (refl, cc)
    go false e = clash (cc)

no-kind : (name : List ℕ) → None ≡ kind_told name → is_row (row_named name) ≡ false
unfolding kind_told
no-kind name e = go (is_row (row_named name)) e
  where
    go : (b : Bool) → None ≡ choose b (Some (row_named name).kind) None → b ≡ false
    go true e = clash (cc)
    go false e = refl

-- the row of a name that some record has
pub kind-row : (name : List ℕ) {kind : ℕ} → kind ≡ (row_named name).kind → kind ≢ 0 → is_row (kind_row kind) ≡ true
kind-row name {kind} e n = rw (e, named-row name, named-is name, ← e, ne_eqb kind 0 n)

told-row : (name : List ℕ) {kind : ℕ} → Some kind ≡ kind_told name → is_row (kind_row kind) ≡ true
told-row name {kind} e = let k = some-kind name e in rw (k.1, named-row name) k.0

-- the kind whose number stands one past the place of its name
pub name_nowhere : (name : List ℕ) → None ≡ named_in record_names name → None ≡ kind_told name
name_nowhere name e = ap (option_map suc) e ∙ kind-is name

pub name-found : (name : List ℕ) (place : ℕ) (r : Result RecordKind Fault) → Some place ≡ named_in record_names name → KindTold (place + 1) r →
    option_map number_of_kind (result_ok r) ≡ kind_told name
name-found name place r e told =
    let counted : Some (suc place) ≡ kind_told name = ap (option_map suc) e ∙ kind-is name in
    go r told counted
  where
    go : (r : Result RecordKind Fault) → KindTold (place + 1) r → Some (suc place) ≡ kind_told name → option_map number_of_kind (result_ok r) ≡ kind_told name
    go (Ok kind) told counted = ap (λ (n : ℕ). Some n) (told ∙ add-one place) ∙ counted
    go (Err f) told counted = test-clash (told-row name counted) (rw add-one at told.1)

module _ (line : List ℕ) {values : List ℕ} (room : length values ≡ 5) where
  pub comment-read : eqb (get_or line 0 0) 35 ≡ true → LineRead line (Ok None) values
  unfolding line_says
  comment-read c = record { told = rw c; room = room }

  pub nothing_read : eqb (get_or line 0 0) 35 ≡ false → fields line ≡ [] → LineRead line (Ok None) values
  unfolding line_says fields_say
  nothing_read c e = record { told = rw (c, e); room = room }

  pub no-name-read : (name : List ℕ) (rest : List (List ℕ)) → eqb (get_or line 0 0) 35 ≡ false → fields line ≡ name ∷ rest → None ≡ kind_told name →
      LineRead line (Err (record { reason = Name; place = 0 })) values
  unfolding line_says fields_say
  no-name-read name rest c e z = record { told = rw (c, e, no-kind name z); room = room }

-- a name that some record has
line-is : (line name : List ℕ) (rest : List (List ℕ)) → eqb (get_or line 0 0) 35 ≡ false → fields line ≡ name ∷ rest → is_row (row_named name) ≡ true →
    line_says line ≡ made (row_named name) (values_from (row_named name).kind 0 (row_named name).widths rest)
unfolding line_says fields_say
line-is line name rest c e row = rw (c, e, row)

pub kind-read : (line name : List ℕ) (rest : List (List ℕ)) {kind : ℕ} {r : Result (Option RecordKind) Wrong} {values : List ℕ} → eqb (get_or line 0 0) 35 ≡ false →
    fields line ≡ name ∷ rest → Some kind ≡ kind_told name → SaidRead (kind_says kind rest) r values → LineRead line r values
unfolding kind_says
kind-read line name rest {kind} {r} {values} c e k s =
    let known = some-kind name k in
    let row_is : kind_row kind ≡ row_named name = ap kind_row known.1 ∙ named-row name in
    let is : kind_says kind rest ≡ line_says line =
    ap (λ (x : Row). made x (values_from kind 0 x.widths rest)) row_is
    ∙ ap (λ (i : ℕ). made (row_named name) (values_from i 0 (row_named name).widths rest)) known.1
    ∙ sym (line-is line name rest c e known.0) in
    subst (λ (said : L.Said). SaidRead said r values) is s
