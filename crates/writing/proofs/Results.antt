-- What the writer's ways out give, and that only one result keeps the promise.
use Prim.Native.Nat.{ℕ, ◌≤◌, ◌<◌}
use mathlib.Core.Path.{◌≡◌, refl, ap, sym, ◌∙◌}
use mathlib.Core.Bool.{true, false}
use mathlib.Core.List.{List}
use native.Mathlib.Omega.{arith}
use lib.ListN.{length, take, length-append}
use lib.Seq.{take_at}
use lib.Dec.{ltb}
use borrow.Author.Tests.{le-leb, lt-leb}
use Rattle.lists.specs.Over.{over}
use Rattle.lists.proofs.Tests.{clash}
use Rattle.trace.specs.Item.{Items, none}
use Rattle.trace.specs.Table.{size}
use Rattle.trace.specs.Write.{trace_of}
use Rattle.trace.specs.Check.{accepted, check}
use Rattle.trace.specs.Answers.{number_of}
use Rattle.trace.specs.declared.Fault.{Fault}
use Rattle.trace.specs.declared.Fault.TheVariants.{Long}
use Rattle.trace.proofs.Accept.{length-trace}
use Rattle.writing.specs.Rows.{Rows, row_count, entries}
use Rattle.writing.specs.Writing.{list_size, check_list, Result, refusal, acceptance, count, told_by, result, output_after, told}
use Rattle.writing.specs.Promise.{Promised}
use Rattle.writing.specs.declared.Written.{Written}
use Rattle.writing.specs.Inner.Records.{records_to, Typed}
use Rattle.writing.specs.Inner.Checked.{verdict_of, IsClean, IsFaulty}
use Rattle.writing.proofs.Lists.{accepted-list, reads-what-was-written, records-are}

module _ (r : Rows) where
  -- 10, where the records are too long
  pub too-long : ltb 65536 (list_size (entries r)) ≡ true → IsFaulty (check_list (entries r)) Long 0 0
  unfolding check_list size count
  too-long e = record { before = none; refuses = rw e; offset-is = refl; row_is = refl }

  -- else the rows decide
  pub rows-decide : ltb 65536 (list_size (entries r)) ≡ false → check_list (entries r) ≡ verdict_of r
  unfolding check_list
  rows-decide e = rw e

  -- the records of all rows
  all-records : (xs : Items) → check_list (entries r) ≡ accepted xs → records_to r (row_count r) ≡ trace_of xs
  unfolding entries
  all-records xs e = records-are r (row_count r) xs (accepted-list (entries r) xs e)

  module _ (before : List ℕ) where
    -- ---- a refusal: the output stays
    refuses : (number offset row : ℕ) → result (entries r) (length before) ≡ refusal number offset row →
        Promised r before (told (refusal number offset row)) before
    unfolding output_after
    refuses number offset row e = record {
      answer-is = ap told (sym e);
      output-is = ap (λ (o : Result). output_after o before) (sym e);
      again = λ xs h. (let z : refusal number offset row ≡ acceptance xs = sym e ∙ h in clash (cc));
      counts = omega arith;
    }

    -- the number of a fault
    pub refuses-row : (f : Fault) (offset row : ℕ) → IsFaulty (check_list (entries r)) f offset row →
        Promised r before (told (refusal (number_of f) offset row)) before
    unfolding result told_by
    refuses-row f offset row faulty = refuses (number_of f) offset row (rw (faulty.refuses, faulty.offset-is, faulty.row_is))

    module _ {n : ℕ} (clean : IsClean (check_list (entries r)) n) where
      -- 12, where the output is too short
      pub refuses-short : length before < n → Promised r before (told (refusal 12 0 0)) before
      unfolding result told_by
      refuses-short low = refuses 12 0 0 (rw (clean.accepts, lt-leb (size clean.items) (length before) (rw (← clean.size_is) low)))

      -- the records fit the output, and their length is told
      pub records-long : length (records_to r (row_count r)) ≡ n
      records-long = ap length (all-records clean.items clean.accepts) ∙ length-trace clean.items ∙ sym clean.size_is

      -- the records stand at the start of the output, and reading them gives the items
      pub writes : Typed r → n ≤ length before → (after : List ℕ) → after ≡ over (records_to r (row_count r)) before →
          Promised r before (record { refusal = 0; offset = 0; row = 0; len = n }) after
      unfolding result told_by output_after
      writes typed room after e =
          let xs = clean.items in
          let is : result (entries r) (length before) ≡ acceptance xs = rw (clean.accepts, le-leb (size xs) (length before) (rw (← clean.size_is) room)) in
          let output : after ≡ over (trace_of xs) before = e ∙ ap (λ (l : List ℕ). over l before) (all-records xs clean.accepts) in
          let front = ap (take (size xs)) output ∙ take_at (trace_of xs) _ (size xs) (length-trace xs) in
          record {
            answer-is = rw clean.size_is (ap told (sym is));
            output-is = output ∙ ap (λ (o : Result). output_after o before) (sym is);
            again = λ ys h.
                let same : xs ≡ ys = items xs ys (sym is ∙ h) in
                rw (← same) (ap check front ∙ reads-what-was-written typed xs clean.accepts);
            counts = rw (output, length-append) (omega (arith, length-trace xs, clean.size_is));
          }
        where
          items : (xs ys : Items) → acceptance xs ≡ acceptance ys → xs ≡ ys
          items xs ys h = cc

-- ---- only one answer and one output keep the promise
pub only_one : (r : Rows) (before : List ℕ) (a a' : Written) (after after' : List ℕ) → Promised r before a after → Promised r before a' after' →
    (a ≡ a') × (after ≡ after')
only_one r before a a' after after' p p' = (p.answer-is ∙ sym p'.answer-is, p.output-is ∙ sym p'.output-is)
