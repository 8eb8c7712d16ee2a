-- The record that stands first: what it is by its bytes, and that the others are the records of the rest.
use Prim.Native.Nat.{ℕ, zero, suc, ◌+◌, ◌-◌, ◌≤◌, ◌<◌}
use mathlib.Core.Path.{◌≡◌, refl, ap, sym, ◌∙◌}
use mathlib.Core.Logic.{◌≢◌}
use mathlib.Core.List.{List, [], ◌∷◌}
use mathlib.Core.Bool.{Bool, true, false, not}
use native.Mathlib.Omega.{arith}
use native.Mathlib.Nat.{add-zero}
use Rattle.std.specs.Prelude.{Ok, Some}
use lib.ListN.{length, take, drop, length-drop}
use lib.Seq.{drop-drop, length-take-le}
use lib.Dec.{eqb, ltb}
use borrow.Author.Tests.{lt-ltb, le-ltb, eq-eqb, ne_eqb, ltb-false}
use Rattle.lists.specs.Choice.{choose}
use Rattle.lists.proofs.Tests.{clash}
use Rattle.trace.specs.Bytes.{number}
use Rattle.trace.specs.Table.{body_size, no_row, is_row, kind_row, body_row, item}
use Rattle.trace.specs.Records.{Split, nothing, faulty, whole, split, Records, done, broken, next, divided, records_up_to, records}
use Rattle.trace.specs.Inner.Kinds.{number_of_kind}
use Rattle.trace.specs.Inner.Known.{Bodied}
use Rattle.trace.specs.Inner.Told.{HeadRead}
use Rattle.trace.specs.declared.kind.RecordKind.{RecordKind}
use Rattle.trace.specs.declared.record.Record.{Record}
use Rattle.trace.proofs.Numbers.{number-drop}
use Rattle.trace.proofs.Table.{row_told, row-sizes}
use Rattle.trace.proofs.KindRows.{kind-known, one-row}

-- what stands at an offset, by the bytes there
pub split_at : (s : List ℕ) (at : ℕ) →
    split (drop at s) ≡
    choose (eqb (length s - at) 0) nothing
    (choose (ltb (length s - at) 4) (faulty 1)
    (choose (not (is_row (kind_row (number 2 s (at + 2))))) (faulty 2)
    (choose (not (is_row (body_row (number 2 s (at + 2)) (number 2 s at)))) (faulty 3)
    (choose (ltb (length s - at - 4) (number 2 s at)) (faulty 1)
    (whole (number 2 s (at + 2)) (take (number 2 s at) (drop (at + 4) s)))))))
unfolding split
split_at s at = simp (length-drop, number-drop, drop-drop, add-zero)

-- the numbers of a header that stands at an offset
pub record Header (s : List ℕ) (at len kind : ℕ) : Type 0 where
  pub some : 4 ≤ length s - at
  pub len_is : len ≡ number 2 s at
  pub kind-is : kind ≡ number 2 s (at + 2)

pub body-size : (s : List ℕ) (at size : ℕ) {b : List ℕ} → b ≡ take size (drop (at + 4) s) → at + 4 + size ≤ length s → length b ≡ size
body-size s at size is inside = ap length is ∙ length-take-le size (drop (at + 4) s) (simp length-drop (omega arith))

-- a record that stands whole, with its body
pub record Body (s : List ℕ) (at kind : ℕ) (b : List ℕ) : Type 0 where
  pub stands : split (drop at s) ≡ whole kind b
  pub inside : at + 4 + length b ≤ length s
  pub bodied : Bodied kind b

pub body_at : {s : List ℕ} {at kind : ℕ} (size : ℕ) {b : List ℕ} → split (drop at s) ≡ whole kind (take size (drop (at + 4) s)) →
    at + 4 + size ≤ length s → is_row (body_row kind size) ≡ true → b ≡ take size (drop (at + 4) s) → Body s at kind b
body_at {s} {at} {kind} size {b} says inside right is =
    let long = body-size s at size is inside in
    record { stands = rw is says; inside = rw long inside; bodied = record { right = rw long right } }

-- what stands there: a record of an unknown kind; of a known one by its length, and by how much there is of its body
module _ {s : List ℕ} {at len : ℕ} where
  pub unknown-kind : {kind : ℕ} → Header s at len kind → is_row (kind_row kind) ≡ false → split (drop at s) ≡ faulty 2
  unknown-kind h none = simp (split_at, ne_eqb (length s - at) 0 (λ e. omega (arith, h.some)), le-ltb _ _ h.some, ← h.kind-is, none)

  module _ (kind : RecordKind) (h : Header s at len (number_of_kind kind)) where
    known-kind : let r = kind_row (number_of_kind kind) in
        split (drop at s) ≡
        choose (not (is_row (choose (eqb len (body_size r)) r no_row))) (faulty 3)
        (choose (ltb (length s - at - 4) len) (faulty 1) (whole (number_of_kind kind) (take len (drop (at + 4) s))))
    known-kind =
        simp (split_at, ne_eqb (length s - at) 0 (λ e. omega (arith, h.some)), le-ltb _ _ h.some, ← h.len_is, ← h.kind-is, kind-known kind, one-row kind len)

    pub length-wrong : len ≢ body_size (kind_row (number_of_kind kind)) → split (drop at s) ≡ faulty 3
    length-wrong n = known-kind ∙ simp (ne_eqb _ _ n)

    module _ (long : len ≡ body_size (kind_row (number_of_kind kind))) where
      pub body-cut : length s - at - 4 < len → split (drop at s) ≡ faulty 1
      body-cut cut = known-kind ∙ simp (eq-eqb _ _ long, kind-known kind, lt-ltb _ _ cut)

      pub body-whole : len ≤ length s - at - 4 → Body s at (number_of_kind kind) (take len (drop (at + 4) s))
      body-whole inside = body_at len (known-kind ∙ simp (eq-eqb _ _ long, kind-known kind, le-ltb _ _ inside)) (omega (arith, h.some))
          (simp (one-row kind len, eq-eqb _ _ long) (kind-known kind)) refl

-- `divided` looks at the rest only behind a header
divided-same : (t : Split) (f g : List ℕ → Records) (s : List ℕ) → ((n : ℕ) → f (drop (4 + n) s) ≡ g (drop (4 + n) s)) → divided t f s ≡ divided t g s
unfolding divided
divided-same nothing f g s h = refl
divided-same (faulty n) f g s h = refl
divided-same (whole kind b) f g s h = ap (next (item kind b)) (h (length b))

split-nothing : (s : List ℕ) → length s ≤ 0 → split s ≡ nothing
unfolding split
split-nothing [] h = refl
split-nothing (x ∷ s) h = let z : ⊥ = omega arith in elim z [ ]

-- the bound does not matter where it is enough
enough : (f g : ℕ) (s : List ℕ) → length s ≤ f → length s ≤ g → records_up_to f s ≡ records_up_to g s
unfolding records_up_to divided
enough zero zero s h h' = refl
enough zero (suc g) s h h' = rw (split-nothing s h)
enough (suc f) zero s h h' = rw (split-nothing s h')
enough (suc f) (suc g) s h h' =
    divided-same (split s) (records_up_to f) (records_up_to g) s
    (λ n. enough f g (drop (4 + n) s) (simp length-drop (omega arith)) (simp length-drop (omega arith)))

pub records-divided : (s : List ℕ) → records s ≡ divided (split s) records s
unfolding records records_up_to
records-divided s =
    enough (length s) (suc (length s)) s (omega arith) (omega arith)
    ∙ divided-same (split s) (records_up_to (length s)) records s
    (λ n. enough (length s) (length (drop (4 + n) s)) (drop (4 + n) s) (simp length-drop (omega arith)) (omega arith))

module _ (s : List ℕ) where
  pub records-nothing : split s ≡ nothing → records s ≡ done
  unfolding divided
  records-nothing e = rw (records-divided s, e)

  pub records-faulty : (n : ℕ) → split s ≡ faulty n → records s ≡ broken n
  unfolding divided
  records-faulty n e = rw (records-divided s, e)

  pub records-whole : (kind : ℕ) (b : List ℕ) → split s ≡ whole kind b → records s ≡ next (item kind b) (records (drop (4 + length b) s))
  unfolding divided
  records-whole kind b e = rw (records-divided s, e)

-- nothing stands only at the end
nothing_is : (s : List ℕ) → split s ≡ nothing → s ≡ []
unfolding split
nothing_is [] e = refl
nothing_is (x ∷ s) e =
    clash (go (ltb (suc (length s)) 4) (is_row (kind_row K)) (is_row (body_row K N)) (ltb (suc (length s) - 4) N)
    (simp (ne_eqb (suc (length s)) 0 (λ z. omega arith)) at e))
  where
    K : ℕ
    K = number 2 (x ∷ s) 2

    N : ℕ
    N = number 2 (x ∷ s) 0

    go : (t₂ t₃ t₄ t₅ : Bool) →
        choose t₂ (faulty 1) (choose (not t₃) (faulty 2) (choose (not t₄) (faulty 3) (choose t₅ (faulty 1) (whole K (take N (drop 4 (x ∷ s))))))) ≡ nothing →
        ◌≡◌ {A = ℕ} 0 1
    go true t₃ t₄ t₅ h = cc
    go false false t₄ t₅ h = cc
    go false true false t₅ h = cc
    go false true true true h = cc
    go false true true false h = cc

pub records-done : (s : List ℕ) → records s ≡ done → s ≡ []
unfolding divided
records-done s e = go (split s) refl (sym (records-divided s) ∙ e)
  where
    go : (t : Split) → split s ≡ t → divided t records s ≡ done → s ≡ []
    go nothing f h = nothing_is s f
    go (faulty n) f h = clash (cc)
    go (whole kind b) f h = clash (cc)

-- a whole record, by its bytes
pub record Whole (s : List ℕ) (kind : ℕ) (b : List ℕ) : Type 0 where
  pub kind-is : number 2 s 2 ≡ kind
  pub size_is : number 2 s 0 ≡ length b
  pub right : is_row (body_row kind (length b)) ≡ true
  pub fits : 4 + length b ≤ length s
  pub body_is : b ≡ take (length b) (drop 4 s)

pub whole_is : (s : List ℕ) (kind : ℕ) (b : List ℕ) → split s ≡ whole kind b → Whole s kind b
unfolding split
whole_is s kind b e =
    go (eqb (length s) 0) (ltb (length s) 4) (is_row (kind_row K)) (is_row (body_row K N)) (ltb (length s - 4) N) refl refl refl e
  where
    K : ℕ
    K = number 2 s 2

    N : ℕ
    N = number 2 s 0

    told : Split
    told = whole K (take N (drop 4 s))

    kind-same : (k : ℕ) (l : List ℕ) → whole k l ≡ whole kind b → k ≡ kind
    kind-same k l h = cc

    body_same : (k : ℕ) (l : List ℕ) → whole k l ≡ whole kind b → b ≡ l
    body_same k l h = cc

    go : (t₁ t₂ t₃ t₄ t₅ : Bool) → ltb (length s) 4 ≡ t₂ → is_row (body_row K N) ≡ t₄ → ltb (length s - 4) N ≡ t₅ →
        choose t₁ nothing (choose t₂ (faulty 1) (choose (not t₃) (faulty 2) (choose (not t₄) (faulty 3) (choose t₅ (faulty 1) told)))) ≡ whole kind b →
        Whole s kind b
    go true t₂ t₃ t₄ t₅ e₂ e₄ e₅ h = clash (cc)
    go false true t₃ t₄ t₅ e₂ e₄ e₅ h = clash (cc)
    go false false false t₄ t₅ e₂ e₄ e₅ h = clash (cc)
    go false false true false t₅ e₂ e₄ e₅ h = clash (cc)
    go false false true true true e₂ e₄ e₅ h = clash (cc)
    go false false true true false e₂ e₄ e₅ h =
        let k = kind-same K (take N (drop 4 s)) h in
        let is = body_same K (take N (drop 4 s)) h in
        let room : N ≤ length (drop 4 s) = simp length-drop (ltb-false (length s - 4) N e₅) in
        let n : N ≡ length b = sym (ap length is ∙ length-take-le N (drop 4 s) room) in
        record {
          kind-is = k;
          size_is = n;
          right = rw (← k, ← n) e₄;
          fits = omega (arith, ltb-false (length s) 4 e₂, ltb-false (length s - 4) N e₅, n);
          body_is = is ∙ ap (λ (m : ℕ). take m (drop 4 s)) n;
        }

pub is_whole : {s : List ℕ} {kind : ℕ} {b : List ℕ} → Whole s kind b → split s ≡ whole kind b
unfolding split
is_whole {s} {kind} {b} w =
    let told = row_told kind (length b) w.right in
    let known : is_row (kind_row kind) ≡ true = rw (← told.kind-is) at (row-sizes _ told.right).known in
    simp (
      w.kind-is,
      w.size_is,
      ne_eqb (length s) 0 (λ e. omega (arith, w.fits)),
      le-ltb (length s) 4 (omega (arith, w.fits)),
      known,
      w.right,
      le-ltb (length s - 4) (length b) (omega (arith, w.fits)),
      ← w.body_is,
    )

-- a head that announces a record
pub head-body : {s : List ℕ} {at : ℕ} {r : Record} → HeadRead s at (Ok (Some r)) → Body s at (number_of_kind r.kind) r.body.now
head-body h = record { stands = sym h.says; inside = h.fits.inside; bodied = h.fits.bodied }
