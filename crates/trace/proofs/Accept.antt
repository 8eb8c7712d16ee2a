-- Which traces are accepted, and with which items: just those that are the items written, none of them refused.
use Prim.Native.Nat.{ℕ, zero, suc, ◌≤◌}
use mathlib.Core.Path.{◌≡◌, refl, ap, sym, ◌∙◌, subst}
use mathlib.Core.Logic.{◌≢◌, ◌↔◌}
use mathlib.Core.List.{List, [], ◌++◌, append_assoc, append-nil}
use mathlib.Core.Bool.{Bool, true, false}
use native.Mathlib.Omega.{arith}
use lib.ListN.{length, take, length-append}
use lib.Seq.{take_at}
use lib.Dec.{ltb}
use borrow.Author.Tests.{ltb-false, le-ltb}
use Rattle.lists.specs.Choice.{choose}
use Rattle.lists.proofs.Tests.{clash}
use Rattle.trace.specs.Bytes.{AreBytes}
use Rattle.trace.specs.Item.{Item, Items, none, after}
use Rattle.trace.specs.Table.{size}
use Rattle.trace.specs.Write.{record_of, trace_of}
use Rattle.trace.specs.Inner.Fits.{AllFitBytes, none-fit, after-fit}
use Rattle.trace.specs.Records.{Records, done, broken, next, records, records_up_to}
use Rattle.trace.specs.Refusals.{fault}
use Rattle.trace.specs.Check.{refused, accepted, ended, decide, check_records, check}
use Rattle.trace.specs.Inner.Fits.{Valid, valid-none, valid-after}
use Rattle.trace.proofs.Records.{records-done}
use Rattle.trace.proofs.Written.{length-record, records-written, first_of}

pub record Accepted (s : List ℕ) (xs : Items) : Type 0 where
  pub short : length s ≤ 65536
  pub some : xs ≢ none
  pub valid : Valid xs
  pub fit : AllFitBytes xs
  pub bytes-are : s ≡ trace_of xs

pub length-trace : (xs : Items) → length (trace_of xs) ≡ size xs
unfolding trace_of size
length-trace none = refl
length-trace (after before x) = omega (arith, length-append (trace_of before) (record_of x), length-trace before, length-record x)

-- items that are not refused are passed over
check-written : (xs : Items) → Valid xs → AllFitBytes xs → (back : List ℕ) →
    check_records none (records (trace_of xs ++ back)) ≡ check_records xs (records back)
unfolding trace_of check_records decide
check-written none v fit back = refl
check-written (after before x) (valid-after v sound) (after-fit fit fits) back =
    rw (append_assoc (trace_of before) (record_of x) back)
    (check-written before v fit (record_of x ++ back) ∙ rw (records-written x fits back, sound))

-- items that are written are read back, where none is refused
pub accepts : (before : Items) (x : Item) → Valid (after before x) → AllFitBytes (after before x) → length (trace_of (after before x)) ≤ 65536 →
    check (trace_of (after before x)) ≡ accepted (after before x)
unfolding check ended check_records records records_up_to
accepts before x v fit short =
    simp (le-ltb 65536 (length (trace_of (after before x))) short)
    (rw append-nil at (check-written (after before x) v fit []))

-- what is accepted after the items before is those items and the records that follow
accepted-after : (r : Records) (before xs : Items) (s left : List ℕ) → records left ≡ r → AreBytes left → s ≡ trace_of before ++ left → length s ≤ 65536 →
    Valid before → AllFitBytes before → check_records before r ≡ accepted xs → Accepted s xs
unfolding check_records ended decide trace_of
accepted-after done none xs s left e are stand short v fit h = clash (cc)
accepted-after done (after before x) xs s left e are stand short v fit h =
    let same : after before x ≡ xs = items (after before x) h in
    subst (Accepted s) same
    (record {
      short = short;
      some = λ g. clash (cc);
      valid = v;
      fit = fit;
      bytes-are = stand ∙ rw (records-done left e) (append-nil (trace_of (after before x)));
    })
  where
    items : (ys : Items) → accepted ys ≡ accepted xs → ys ≡ xs
    items ys g = cc
accepted-after (broken n) before xs s left e are stand short v fit h = clash (cc)
accepted-after (next x rest) before xs s left e are stand short v fit h =
    let f = first_of are x rest e in
    let stand' : s ≡ (trace_of before ++ record_of x) ++ f.back =
    stand ∙ ap (λ (l : List ℕ). trace_of before ++ l) f.bytes-are ∙ sym (append_assoc (trace_of before) (record_of x) f.back) in
    go (λ sound. accepted-after rest (after before x) xs s f.back (sym f.rest-is) f.are stand' short (valid-after v sound) (after-fit fit f.fits))
    (fault before x) refl h
  where
    go : (fault before x ≡ 0 → check_records (after before x) rest ≡ accepted xs → Accepted s xs) →
        (n : ℕ) → fault before x ≡ n → decide n before (check_records (after before x) rest) ≡ accepted xs → Accepted s xs
    go on zero f g = on f g
    go on (suc n) f g = clash (cc)

-- a trace is accepted with items xs just where it is xs written, none refused
pub accepted-is : (s : List ℕ) (xs : Items) → AreBytes s → check s ≡ accepted xs → Accepted s xs
unfolding check trace_of
accepted-is s xs are e = go (ltb 65536 (length s)) refl e
  where
    go : (t : Bool) → ltb 65536 (length s) ≡ t → choose t (refused 10 none) (check_records none (records s)) ≡ accepted xs → Accepted s xs
    go true f h = clash (cc)
    go false f h = accepted-after (records s) none xs s s refl are refl (ltb-false 65536 (length s) f) valid-none none-fit h

is-accepted : (s : List ℕ) (xs : Items) → Accepted s xs → check s ≡ accepted xs
is-accepted s none a = absurd (a.some refl)
is-accepted s (after before x) a =
    rw a.bytes-are (accepts before x a.valid a.fit (rw a.bytes-are at a.short))

pub accepted-iff : (s : List ℕ) (xs : Items) → AreBytes s → (check s ≡ accepted xs) ↔ Accepted s xs
accepted-iff s xs are = (accepted-is s xs are, is-accepted s xs)

-- what was read from an accepted trace is written as the same bytes
pub written-again : (s : List ℕ) (xs : Items) → AreBytes s → check s ≡ accepted xs → trace_of xs ≡ s
written-again s xs are e = sym (accepted-is s xs are e).bytes-are

valid-before : {before : Items} {x : Item} → Valid (after before x) → Valid before
valid-before (valid-after v f) = v

fit-before : {before : Items} {x : Item} → AllFitBytes (after before x) → AllFitBytes before
fit-before (after-fit fit f) = fit

-- an accepted trace without its last record is accepted, where a record is left
pub accepted-before : (s : List ℕ) (before : Items) (x y : Item) → AreBytes s → check s ≡ accepted (after (after before x) y) →
    check (take (size (after before x)) s) ≡ accepted (after before x)
unfolding trace_of
accepted-before s before x y are e = go (accepted-is s (after (after before x) y) are e)
  where
    go : Accepted s (after (after before x) y) → check (take (size (after before x)) s) ≡ accepted (after before x)
    go a =
        let xs = after before x in
        let front : take (size xs) s ≡ trace_of xs =
        ap (take (size xs)) a.bytes-are ∙ take_at (trace_of xs) (record_of y) (size xs) (length-trace xs) in
        let low : length (trace_of xs) ≤ 65536 = omega (arith, ap length a.bytes-are, length-append (trace_of xs) (record_of y), a.short) in
        rw front (accepts before x (valid-before a.valid) (fit-before a.fit) low)
