-- The rows checked one by one: what each says, and what the rest then decides.
use Prim.Native.Nat.{ℕ, zero, suc, ◌+◌, ◌≤◌, ◌<◌}
use mathlib.Core.Path.{◌≡◌, refl, ap, sym, ◌∙◌}
use mathlib.Core.Logic.{◌≢◌}
use mathlib.Core.Bool.{true, false}
use mathlib.Core.List.{List, ◌∷◌}
use native.Mathlib.Numerals.{add-one}
use native.Mathlib.Omega.{arith}
use lib.ListN.{drop, replicate, length-replicate, get_or-replicate, drop_of_length-le}
use lib.Seq.{drop-cons}
use Rattle.std.specs.Prelude.{Result, Ok, Err, MatchResult, IsErrAnd}
use Rattle.lists.specs.Search.{some}
use Rattle.lists.specs.Table.{list_below}
use Rattle.lists.proofs.Below.{length-below, get_or-below}
use Rattle.lists.proofs.Tests.{clash}
use Rattle.trace.specs.Item.{Items, none, after}
use Rattle.trace.specs.Table.{is_row, record_size, size}
use Rattle.trace.specs.Contents.{contents, last_section, acts_offset}
use Rattle.trace.specs.Refusals.{fault}
use Rattle.trace.specs.Check.{Verdict, refused, ended, decide, check_records}
use Rattle.trace.specs.Answers.{number_of}
use Rattle.trace.specs.Inner.Known.{RecordFault, begun}
use Rattle.trace.specs.declared.Fault.{Fault}
use Rattle.trace.specs.declared.Fault.TheVariants.{Kind, Order}
use Rattle.trace.specs.declared.progress.Progress.{Progress}
use Rattle.trace.proofs.Answers.{number-range}
use Rattle.writing.specs.Rows.{Rows, row_count, Entry, known, unknown, entry, entries}
use Rattle.writing.specs.Writing.{records_of, list_size, entry_size, count}
use Rattle.writing.specs.Inner.Records.{row_at}
use Rattle.writing.specs.Inner.Checked.{MayCheck, BodyPasses, BodyTurn, RowTurn, verdict_of, Inside, IsClean, IsFaulty}
use Rattle.writing.specs.declared.check.Faulty.{Faulty}
use Rattle.writing.proofs.Entries.{item_at, entry_known, entry-unknown}

-- the rows from i on
next_row : (r : Rows) (i : ℕ) → i < row_count r → drop i (entries r) ≡ entry r i ∷ drop (suc i) (entries r)
unfolding entries
next_row r i l =
    drop-cons (list_below (row_count r) (entry r)) i unknown (omega (arith, length-below (row_count r) (entry r)))
    ∙ ap (λ (e : Entry). e ∷ drop (suc i) (list_below (row_count r) (entry r))) (get_or-below unknown (row_count r) (entry r) i l)

-- a fault decides
decide-some : (n : ℕ) (before : Items) (rest : Verdict) → n ≢ 0 → decide n before rest ≡ refused n before
unfolding decide
decide-some zero before rest n = absurd (n refl)
decide-some (suc m) before rest n = refl

-- the rows before one are known to its body's check
pub may-check : {r : Rows} {i : ℕ} {p : Progress} {marks : List ℕ} → Inside r i p marks → MayCheck p marks
may-check {r} {i} s = record {
  before = s.before;
  known = s.known;
  room = s.room;
  at_low = omega (arith, s.known.at-is, s.sizes, s.short);
}

-- the rows from i on decide, whatever is known of them
decides : {r : Rows} {i : ℕ} {p : Progress} {marks : List ℕ} (s : Inside r i p marks) {es : List Entry} → drop i (entries r) ≡ es →
    verdict_of r ≡ check_records s.before (records_of es)
decides s e = s.verdict ∙ ap (λ (es : List Entry). check_records s.before (records_of es)) e

module _ {r : Rows} {i : ℕ} {p : Progress} {marks : List ℕ} (s : Inside r i p marks) (l : i < row_count r) where
  -- what row i and the rest decide
  with_row : (e : Entry) → entry r i ≡ e → verdict_of r ≡ check_records s.before (records_of (e ∷ drop (suc i) (entries r)))
  with_row e is = decides s (next_row r i l ∙ ap (λ (x : Entry). x ∷ drop (suc i) (entries r)) is)

  -- a fault of row i is told with its offset and its row
  fails : (f : Fault) → verdict_of r ≡ refused (number_of f) s.before → IsFaulty (verdict_of r) f p.at i
  fails f v = record { before = s.before; refuses = v; offset-is = s.known.at-is; row_is = sym s.many }

  -- its kind is none; by its body a fault; or the rows behind it decide
  pub row-unknown : is_row (row_at r i) ≡ false → IsFaulty (verdict_of r) Kind p.at i
  unfolding records_of check_records
  row-unknown is = fails Kind (with_row unknown (entry-unknown r i is))

  module _ (is : is_row (row_at r i) ≡ true) where
    pub row-faulty : (f : Fault) → RecordFault p marks (item_at r i is) (Err f) → IsFaulty (verdict_of r) f p.at i
    unfolding records_of check_records
    row-faulty f found =
        let x = item_at r i is in
        let some-fault : number_of f ≢ 0 = λ e. omega (arith, e, (number-range f).0) in
        fails f (with_row (known x) (entry_known r i is)
        ∙ rw (← (found.is s.before s.known)) (decide-some (number_of f) s.before _ some-fault))

    pub row-passes : {p' : Progress} {marks' : List ℕ} → BodyPasses (item_at r i is) p marks p' marks' → Inside r (i + 1) p' marks'
    unfolding records_of check_records decide size list_size entry_size count
    row-passes passes =
        let x = item_at r i is in
        let clean : fault s.before x ≡ 0 = sym (passes.clean.is s.before s.known) in
        let rest : list_size (drop i (entries r)) ≡ record_size x + list_size (drop (suc i) (entries r)) =
        ap list_size (next_row r i l) ∙ ap (λ (e : Entry). entry_size e + list_size (drop (suc i) (entries r))) (entry_known r i is) in
        record {
          before = after s.before x;
          known = passes.noted.known s.before s.known clean;
          room = passes.noted.room;
          many = omega (arith, s.many);
          short = s.short;
          sizes = rw (add-one i) (omega (arith, s.sizes, rest));
          verdict = rw (add-one i) (with_row (known x) (entry_known r i is) ∙ rw clean);
        }

    -- what came of the row
    pub row-turn : (t : Result Progress Fault) (marks' : List ℕ) → BodyTurn (item_at r i is) p marks t marks' → RowTurn r i p t marks'
    row-turn (Err f) marks' found = row-faulty f found
    row-turn (Ok p') marks' passes = row-passes passes

-- ---- the start, and the end
pub inside-start : (r : Rows) → list_size (entries r) ≤ 65536 → Inside r 0 begun (replicate 256 0)
unfolding size last_section contents some acts_offset count
inside-start r short = record {
  before = none;
  known = record {
    at-is = refl;
    section-is = refl;
    k-is = refl;
    k-low = omega arith;
    q-is = refl;
    w-is = refl;
    requests-is = refl;
    acts-at-is = refl;
    marks-are = λ a low. get_or-replicate 256 a 0 0 low;
  };
  room = record { acts-at-low = omega arith; requests-low = omega arith; marks-size = length-replicate {A = ℕ} 256 0 };
  many = refl;
  short = short;
  sizes = omega arith;
  verdict = refl;
}

module _ {r : Rows} {i : ℕ} {p : Progress} {marks : List ℕ} (s : Inside r i p marks) (all : row_count r ≤ i) where
  -- no row is left
  at-end : verdict_of r ≡ ended s.before
  unfolding records_of check_records entries
  at-end =
      decides s (drop_of_length-le (list_below (row_count r) (entry r)) {i = i} (omega (arith, length-below (row_count r) (entry r))))

  pub ends-empty : i ≡ 0 → IsFaulty (verdict_of r) Order 0 0
  unfolding ended count size
  ends-empty none-there = go s.before (s.many ∙ none-there) at-end
    where
      go : (xs : Items) → count xs ≡ 0 → verdict_of r ≡ ended xs → IsFaulty (verdict_of r) Order 0 0
      go none e v = record { before = none; refuses = v; offset-is = refl; row_is = refl }
      go (after xs x) e v = absurd (omega arith)

  pub ends-clean : 0 < i → IsClean (verdict_of r) p.at
  unfolding ended count
  ends-clean some-there = go s.before s.many s.known.at-is at-end
    where
      go : (xs : Items) → count xs ≡ i → p.at ≡ size xs → verdict_of r ≡ ended xs → IsClean (verdict_of r) p.at
      go none e z v = absurd (omega (arith, some-there))
      go (after xs x) e z v = record { items = after xs x; accepts = v; size_is = z }

-- a row's fault is told with its offset and its row
pub row-told : (r : Rows) (i : ℕ) (p : Progress) (marks : List ℕ) (t : Result Progress Fault) →
    {u : Result Progress Faulty} {f : Faulty} {Q : Fault → Faulty → Type 0} → RowTurn r i p t marks →
    MatchResult t (λ q. u ≡ Ok q) (λ e. IsErrAnd u (Q e)) →
    ((e : Fault) (g : Faulty) → Q e g → g ≡ record { fault = e; offset = p.at; row = i }) →
    u ≡ Err f → IsFaulty (verdict_of r) f.fault f.offset f.row
row-told r i p marks (Ok q) turn told same is = clash (cc)
row-told r i p marks (Err e) turn told same is = rw (same e _ (rw is at told)) turn
