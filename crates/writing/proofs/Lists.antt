-- Lists of items: the writer tells of them what the reader tells of their records, and their records are what is written.
use Prim.Native.Nat.{ℕ, zero, suc, ◌+◌, ◌≤◌}
use mathlib.Core.Path.{◌≡◌, refl, ap, sym, ◌∙◌, subst}
use mathlib.Core.Bool.{Bool, true, false}
use mathlib.Core.List.{List, [], ◌∷◌, ◌++◌, append_assoc, append-nil}
use native.Mathlib.Omega.{arith}
use lib.ListN.{length}
use lib.Dec.{ltb}
use borrow.Author.Tests.{le-leb}
use Rattle.lists.specs.Choice.{choose}
use Rattle.lists.specs.Table.{list_below}
use Rattle.lists.specs.Search.{All, nil}
use Rattle.lists.proofs.Tests.{clash}
use Rattle.lists.proofs.Every.{all_left, all_right, all_head, all_more}
use Rattle.lists.proofs.Below.{all-below}
use Rattle.trace.specs.Bytes.{AreBytes}
use Rattle.trace.specs.Item.{Items, none, after}
use Rattle.trace.specs.Table.{is_row, size}
use Rattle.trace.specs.Write.{record_of, trace_of}
use Rattle.trace.specs.Records.{Records, next, records, records_up_to}
use Rattle.trace.specs.Refusals.{fault}
use Rattle.trace.specs.Check.{refused, accepted, ended, decide, check_records, check}
use Rattle.trace.specs.Inner.Fits.{FitsBytes, AllFitBytes, none-fit, after-fit}
use Rattle.trace.proofs.Written.{records-written}
use Rattle.trace.proofs.Accept.{accepted-is, length-trace, written-again}
use Rattle.writing.specs.Rows.{Rows, Entry, known, unknown, entry, entries}
use Rattle.writing.specs.Writing.{entry_size, list_size, records_of, check_list, acceptance, told_by, result}
use Rattle.writing.specs.Inner.Records.{row_at, record_at, records_to, Typed}
use Rattle.writing.proofs.Entries.{entry_known, entry-unknown, record_is, fits-at}

-- items as a list of rows that are items
unfoldable pub list_of : Items → List Entry
list_of none = []
list_of (after before x) = list_of before ++ (known x ∷ [])

-- items in front of records
in_front : Items → Records → Records
in_front none rest = rest
in_front (after before x) rest = in_front before (next x rest)

-- where an entry is an item, its numbers fit their fields
abbrev Fitting : Entry → Type 0
Fitting (known x) = FitsBytes x
Fitting unknown = Unit {0}

-- an entry is an item
abbrev IsKnown : Entry → Type 0
IsKnown (known x) = Unit {0}
IsKnown unknown = ⊥

-- the bytes of an entry's record, and of all records of a list
entry_bytes : Entry → List ℕ
entry_bytes (known x) = record_of x
entry_bytes unknown = []

list_bytes : List Entry → List ℕ
list_bytes [] = []
list_bytes (e ∷ es) = entry_bytes e ++ list_bytes es

-- ---- the same records, in the list and in its bytes
records-of-list : (xs : Items) (es : List Entry) → records_of (list_of xs ++ es) ≡ in_front xs (records_of es)
unfolding list_of in_front records_of
records-of-list none es = refl
records-of-list (after before x) es = rw (append_assoc (list_of before) (known x ∷ []) es) (records-of-list before (known x ∷ es))

records-of-trace : {xs : Items} → AllFitBytes xs → (back : List ℕ) → records (trace_of xs ++ back) ≡ in_front xs (records back)
unfolding trace_of in_front
records-of-trace none-fit back = refl
records-of-trace (after-fit {before = before} {x = x} fit fits) back =
    rw (append_assoc (trace_of before) (record_of x) back) (records-of-trace fit (record_of x ++ back) ∙ rw (records-written x fits back))

pub size-append : (es fs : List Entry) → list_size (es ++ fs) ≡ list_size es + list_size fs
unfolding list_size
size-append [] fs = omega arith
size-append (e ∷ es) fs = omega (arith, size-append es fs)

pub size-of-list : (xs : Items) → list_size (list_of xs) ≡ size xs
unfolding list_of list_size size entry_size
size-of-list none = refl
size-of-list (after before x) = omega (arith, size-append (list_of before) (known x ∷ []), size-of-list before)

nothing_left : records_of [] ≡ records []
unfolding records_of records records_up_to
nothing_left = refl

same-records : (xs : Items) → AllFitBytes xs → records_of (list_of xs) ≡ records (trace_of xs)
same-records xs fit =
    ap records_of (sym (append-nil (list_of xs)))
    ∙ records-of-list xs []
    ∙ ap (in_front xs) nothing_left
    ∙ sym (records-of-trace fit [])
    ∙ ap records (append-nil (trace_of xs))

-- the writer tells of a list just what the reader tells of its records, number and offset
pub told_same : (xs : Items) → AllFitBytes xs → check_list (list_of xs) ≡ check (trace_of xs)
unfolding check_list check
told_same xs fit = rw (size-of-list xs, length-trace xs, same-records xs fit)

-- ---- what was read is written
-- from an accepted trace: the list is accepted, and its records are the trace
pub writes-what-was-read : (s : List ℕ) (xs : Items) → AreBytes s → check s ≡ accepted xs → (room : ℕ) → length s ≤ room →
    (result (list_of xs) room ≡ acceptance xs) × (trace_of xs ≡ s)
unfolding result told_by
writes-what-was-read s xs are e room low =
    let again = written-again s xs are e in
    let verdict : check_list (list_of xs) ≡ accepted xs = told_same xs (accepted-is s xs are e).fit ∙ rw again e in
    let fits : size xs ≤ room = omega (arith, length-trace xs, ap length again) in
    (rw (verdict, le-leb (size xs) room fits), again)

-- ---- an accepted list is the items
accepted-from : (es : List Entry) (before xs : Items) → check_records before (records_of es) ≡ accepted xs → list_of before ++ es ≡ list_of xs
unfolding records_of check_records ended decide list_of
accepted-from [] before xs h = append-nil (list_of before) ∙ ap list_of (same before h)
  where
    same : (ys : Items) → ended ys ≡ accepted xs → ys ≡ xs
    same none g = clash (cc)
    same (after ys x) g = cc
accepted-from (unknown ∷ es) before xs h = clash (cc)
accepted-from (known x ∷ es) before xs h = go (fault before x) h (accepted-from es (after before x) xs)
  where
    go : (n : ℕ) → decide n before (check_records (after before x) (records_of es)) ≡ accepted xs →
        (check_records (after before x) (records_of es) ≡ accepted xs → list_of (after before x) ++ es ≡ list_of xs) → list_of before ++ (known x ∷ es) ≡ list_of xs
    go zero g on = sym (append_assoc (list_of before) (known x ∷ []) es) ∙ on g
    go (suc n) g on = clash (cc)

-- the whole list
pub accepted-list : (es : List Entry) (xs : Items) → check_list es ≡ accepted xs → es ≡ list_of xs
unfolding check_list list_of
accepted-list es xs h = go (ltb 65536 (list_size es)) h
  where
    go : (t : Bool) → choose t (refused 10 none) (check_records none (records_of es)) ≡ accepted xs → es ≡ list_of xs
    go true g = clash (cc)
    go false g = accepted-from es none xs g

-- ---- rows: the numbers of each are as wide as their slices
entry-fits : {r : Rows} → Typed r → (i : ℕ) → Fitting (entry r i)
entry-fits {r} typed i = go (is_row (row_at r i)) refl
  where
    go : (t : Bool) → is_row (row_at r i) ≡ t → Fitting (entry r i)
    go true e = rw (entry_known r i e) (fits-at r i e typed)
    go false e = rw (entry-unknown r i e) tt

all_fit : (xs : Items) → All Fitting (list_of xs) → AllFitBytes xs
unfolding list_of
all_fit none h = none-fit
all_fit (after before x) h = after-fit (all_fit before (all_left (list_of before) (known x ∷ []) h)) (all_head (all_right (list_of before) h))

-- the items that rows say fit their bytes
pub rows_fit : {r : Rows} → Typed r → (xs : Items) → entries r ≡ list_of xs → AllFitBytes xs
unfolding entries
rows_fit {r} typed xs e = all_fit xs (subst (All Fitting) e (all-below _ (entry r) (λ i l. entry-fits typed i)))

-- and reading what was written gives the same items
pub reads-what-was-written : {r : Rows} → Typed r → (xs : Items) → check_list (entries r) ≡ accepted xs → check (trace_of xs) ≡ accepted xs
reads-what-was-written {r} typed xs e =
    let same = accepted-list (entries r) xs e in
    sym (told_same xs (rows_fit typed xs same)) ∙ (rw same at e)

-- ---- the bytes: the records of rows that are items are those of the items
bytes-append : (es fs : List Entry) → list_bytes (es ++ fs) ≡ list_bytes es ++ list_bytes fs
unfolding list_bytes
bytes-append [] fs = refl
bytes-append (e ∷ es) fs = rw (bytes-append es fs) (sym (append_assoc (entry_bytes e) (list_bytes es) (list_bytes fs)))

bytes-of-list : (xs : Items) → list_bytes (list_of xs) ≡ trace_of xs
unfolding list_of list_bytes entry_bytes trace_of
bytes-of-list none = refl
bytes-of-list (after before x) =
    bytes-append (list_of before) (known x ∷ []) ∙ rw (append-nil (record_of x), bytes-of-list before)

all_known : (xs : Items) → All IsKnown (list_of xs)
unfolding list_of
all_known none = nil
all_known (after before x) = all_more (all_known before) tt

record-bytes : (r : Rows) (i : ℕ) → IsKnown (entry r i) → record_at r i ≡ entry_bytes (entry r i)
unfolding entry_bytes
record-bytes r i h = go (is_row (row_at r i)) refl
  where
    go : (t : Bool) → is_row (row_at r i) ≡ t → record_at r i ≡ entry_bytes (entry r i)
    go true e = rw (entry_known r i e) (sym (record_is r i e))
    go false e = absurd (rw (entry-unknown r i e) at h)

records-bytes : (r : Rows) (n : ℕ) → All IsKnown (list_below n (entry r)) → records_to r n ≡ list_bytes (list_below n (entry r))
unfolding list_below records_to list_bytes
records-bytes r zero h = refl
records-bytes r (suc n) h =
    let older = all_left (list_below n (entry r)) (entry r n ∷ []) h in
    let last = all_head (all_right (list_below n (entry r)) h) in
    rw (records-bytes r n older, record-bytes r n last)
    (sym (bytes-append (list_below n (entry r)) (entry r n ∷ []) ∙ rw (append-nil (entry_bytes (entry r n)))))

pub records-are : (r : Rows) (n : ℕ) (xs : Items) → list_below n (entry r) ≡ list_of xs → records_to r n ≡ trace_of xs
records-are r n xs e =
    records-bytes r n (subst (All IsKnown) (sym e) (all_known xs)) ∙ ap list_bytes e ∙ bytes-of-list xs
