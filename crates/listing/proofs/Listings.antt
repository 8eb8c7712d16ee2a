-- The listing of a trace by what the trace is told, and in a buffer with room or without.
use Prim.Native.Nat.{ℕ, ◌≤◌, ◌<◌}
use mathlib.Core.Path.{◌≡◌, refl, sym, ◌∙◌, ap, subst}
use Rattle.std.specs.Prelude.{Some, None, Result, Ok, Err}
use mathlib.Core.List.{List}
use lib.ListN.{length}
use borrow.Author.Tests.{le-leb, lt-leb}
use Rattle.lists.proofs.Tests.{clash}
use Rattle.digits.specs.Inner.Buffer.{Printed}
use Rattle.digits.proofs.Buffer.{printed-within, printed-text}
use Rattle.text.specs.Text.{refused_text}
use Rattle.trace.specs.Check.{Verdict, refused, accepted, items_of, check}
use Rattle.trace.specs.Answers.{number_of}
use Rattle.trace.specs.Inner.Told.{acceptance, answered, tells}
use Rattle.trace.specs.declared.Fault.{Fault}
use Rattle.trace.specs.declared.Facts.{Facts}
use Rattle.trace.specs.declared.Refusal.{Refusal}
use Rattle.load.specs.Inner.Loaded.{Loaded}
use Rattle.load.proofs.Refused.{Closed, loaded-refused}
use Rattle.listing.specs.Listing.{listed, listing, listing_room, Listed}
use Rattle.listing.specs.Inner.Walk.{IsAccepted}
use Rattle.listing.proofs.Walk.{is-accepted}

-- ---- a refused trace
listing-refused : {trace : List ℕ} {f : Fault} {at : ℕ} → Closed trace f at → listing trace ≡ refused_text (number_of f) at
unfolding listing listed
listing-refused {f = f} d = ap listed d.refuses ∙ ap (refused_text (number_of f)) (sym d.at-is)

pub refused-listing : {trace marks words m : List ℕ} {r : Result Facts Refusal} → Loaded trace r marks words m → {e : Refusal} {number : ℕ} →
    r ≡ Err e → number ≡ number_of e.fault → listing trace ≡ refused_text number e.offset
refused-listing {trace} {marks} {words} {m} l e same =
    rw (listing-refused (loaded-refused (subst (λ (x : Result Facts Refusal). Loaded trace x marks words m) e l)), same)

-- ---- an accepted trace
told-accepted : (v : Verdict) (facts : Facts) → acceptance facts ≡ answered v → v ≡ accepted (items_of v)
told-accepted (refused n before) facts e = clash (cc)
told-accepted (accepted xs) facts e = refl

pub loaded-accepted : {trace marks words m : List ℕ} {r : Result Facts Refusal} → Loaded trace r marks words m → {facts : Facts} → r ≡ Ok facts → IsAccepted trace
loaded-accepted {trace} l {facts} e = is-accepted trace (told-accepted (check trace) facts (ap tells (sym e) ∙ l.answer))

-- ---- a buffer with room, and one without
pub listed_small : (trace before : List ℕ) → length before < listing_room → Listed trace before None before
listed_small trace before small =
    let no = lt-leb listing_room (length before) small in
    record { len_is = rw no; text-is = rw no; counts = tt }

pub listed-fits : (trace before : List ℕ) {after : List ℕ} {n : ℕ} → listing_room ≤ length before → Printed (listing trace) before after n →
    Listed trace before (Some n) after
listed-fits trace before room w =
    let yes = le-leb listing_room (length before) room in
    record {
      len_is = ap Some w.size ∙ rw yes;
      text-is = w.bytes ∙ rw yes;
      counts = (printed-within w, w.size ∙ ap length (sym (printed-text w)));
    }
