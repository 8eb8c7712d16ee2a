-- The kinds in code are those of the table.
use Prim.Native.Nat.{ℕ}
use mathlib.Core.Path.{◌≡◌, refl, ap, ◌∙◌}
use mathlib.Core.Logic.{◌≢◌, ◌⊎◌, ⊎_elim}
use mathlib.Core.Bool.{Bool, true, false}
use mathlib.Core.List.{List}
use lib.ListN.{length}
use lib.Dec.{eqb}
use borrow.Author.Tests.{ne_eqb}
use Rattle.lists.specs.Choice.{choose}
use Rattle.lists.proofs.Tests.{test-clash}
use Rattle.event.specs.Event.{event, drain}
use Rattle.trace.specs.Bytes.{number, total}
use Rattle.trace.specs.Table.{Row, rows, body_size, no_row, is_row, first_row, kind_row, body_row, item, section}
use Rattle.trace.specs.Inner.Kinds.{number_of_kind}
use Rattle.trace.specs.Inner.Known.{event_in, Bodied, moved, moved_past}
use Rattle.trace.specs.declared.kind.RecordKind.{RecordKind}
use Rattle.trace.specs.declared.kind.RecordKind.TheVariants.{Shape, Word, Request, Event, Drain}
use Rattle.trace.specs.declared.progress.Progress.{Progress}
use Rattle.trace.proofs.Table.{section-item, body-item-size, IsAct, says-event, says-drain}

pub kind-known : (kind : RecordKind) → is_row (kind_row (number_of_kind kind)) ≡ true
unfolding rows kind_row first_row
kind-known Shape = refl
kind-known Word = refl
kind-known Request = refl
kind-known Event = refl
kind-known Drain = refl

pub no-kind : (n : ℕ) → n ≢ 1 → n ≢ 2 → n ≢ 3 → n ≢ 4 → n ≢ 5 → is_row (kind_row n) ≡ false
unfolding rows kind_row first_row
no-kind n n₁ n₂ n₃ n₄ n₅ = simp (ne_eqb n 1 n₁, ne_eqb n 2 n₂, ne_eqb n 3 n₃, ne_eqb n 4 n₄, ne_eqb n 5 n₅)

-- a kind has bodies of one length
pub one-row : (kind : RecordKind) (len : ℕ) → let r = kind_row (number_of_kind kind) in body_row (number_of_kind kind) len ≡ choose (eqb len (body_size r)) r no_row
unfolding rows kind_row body_row first_row total
one-row Shape len = refl
one-row Word len = refl
one-row Request len = refl
one-row Event len = refl
one-row Drain len = refl

-- so a body's row is that of its kind, and it stands in its section
row-found : (kind : RecordKind) {b : List ℕ} → Bodied (number_of_kind kind) b → body_row (number_of_kind kind) (length b) ≡ kind_row (number_of_kind kind)
row-found kind {b} bodied = go (eqb (length b) (body_size r)) (one-row kind (length b)) bodied.right
  where
    r : Row
    r = kind_row (number_of_kind kind)

    go : (t : Bool) → body_row (number_of_kind kind) (length b) ≡ choose t r no_row → is_row (body_row (number_of_kind kind) (length b)) ≡ true →
        body_row (number_of_kind kind) (length b) ≡ r
    go true is right = is
    go false is right = test-clash (rw is at right) refl

pub kind-section : (kind : RecordKind) {b : List ℕ} → Bodied (number_of_kind kind) b →
    section (item (number_of_kind kind) b) ≡ (kind_row (number_of_kind kind)).section
kind-section kind bodied = section-item bodied ∙ ap (λ (r : Row). r.section) (row-found kind bodied)

pub moved_item : (p : Progress) (kind : RecordKind) {b : List ℕ} → Bodied (number_of_kind kind) b →
    moved p (kind_row (number_of_kind kind)).section (length b) ≡ moved_past p (item (number_of_kind kind) b)
moved_item p kind {b} bodied = rw (kind-section kind bodied, ← (body-item-size (number_of_kind kind) b bodied.right)) refl

-- an event's and a drain's body are acts
pub says-acts : (kind : RecordKind) {b : List ℕ} → (kind ≡ Event) ⊎ (kind ≡ Drain) → Bodied (number_of_kind kind) b → IsAct (item (number_of_kind kind) b)
says-acts kind {b} either bodied = ⊎_elim
    (λ e. (event (event_in b), (says-event b (ap number_of_kind e) bodied.right).is))
    (λ e. (drain (number 2 b 0), (says-drain b (ap number_of_kind e) bodied.right).is)) either
