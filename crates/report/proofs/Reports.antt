-- The report of a trace by what the trace is told, and of what its run gives.
use Prim.Native.Nat.{ℕ, ◌≤◌}
use mathlib.Core.Path.{◌≡◌, sym, ◌∙◌, ap, subst}
use Rattle.std.specs.Prelude.{Some, Result, Err}
use mathlib.Core.List.{List}
use native.Mathlib.Omega.{arith}
use lib.ListN.{length}
use borrow.Author.Tests.{le-leb}
use Rattle.lists.specs.Table.{list_below}
use Rattle.lists.proofs.Below.{length-below}
use Rattle.digits.specs.Inner.Buffer.{Printed}
use Rattle.digits.proofs.Buffer.{printed-within, printed-text}
use Rattle.text.specs.Text.{accepted_text, refused_text}
use Rattle.view.specs.Inner.View.{View}
use Rattle.store.specs.Inner.Memory.{view}
use Rattle.trace.specs.Bytes.{AreBytes}
use Rattle.trace.specs.Item.{Items}
use Rattle.trace.specs.Contents.{requests_of}
use Rattle.trace.specs.Answers.{number_of}
use Rattle.trace.specs.declared.Fault.{Fault}
use Rattle.trace.specs.declared.Facts.{Facts}
use Rattle.trace.specs.declared.Refusal.{Refusal}
use Rattle.trace.proofs.Ranges.{accepted-in-range}
use Rattle.load.specs.Inner.Loaded.{Loaded}
use Rattle.load.proofs.Refused.{Closed, loaded-refused}
use Rattle.results.specs.Inner.Copied.{value_in, values_in, marks_in}
use Rattle.run.specs.Results.{Results, results_of}
use Rattle.run.specs.Inner.Run.{items_in, Loading, RanTo}
use Rattle.run.proofs.Results.{results_in, results-are}
use Rattle.report.specs.Report.{named, text_of, reported, report}
use Rattle.report.specs.Inner.Names.{Marked}
use Rattle.report.specs.Inner.Lines.{text_in}
use Rattle.report.specs.Written.{report_room, Reported}
use Rattle.report.proofs.Names.{trace-named}

-- ---- a refused trace
report-refused : {trace : List ℕ} {f : Fault} {at : ℕ} → Closed trace f at → report trace ≡ refused_text (number_of f) at
unfolding report reported
report-refused {f = f} d = ap reported d.refuses ∙ ap (refused_text (number_of f)) (sym d.at-is)

pub refused-text : {trace marks words m : List ℕ} {r : Result Facts Refusal} → Loaded trace r marks words m → {e : Refusal} {number : ℕ} →
    r ≡ Err e → number ≡ number_of e.fault → report trace ≡ refused_text number e.offset
refused-text {trace} {marks} {words} {m} l e same =
    rw (report-refused (loaded-refused (subst (λ (x : Result Facts Refusal). Loaded trace x marks words m) e l)), same)

-- ---- an accepted trace, once it is loaded
module _ {trace : List ℕ} {facts : Facts} {m words : List ℕ} (o : Loading trace facts m words) where
  requests-told : facts.requests ≡ length (requests_of (items_in trace))
  requests-told = ap (λ (f : Facts). f.requests) o.facts-are

  pub requests-few : AreBytes trace → facts.requests ≤ 256
  requests-few are = omega (arith, requests-told, (accepted-in-range trace (items_in trace) are o.verdict).requests-few)

  report-accepted : report trace ≡ text_of (results_of (items_in trace)) (list_below 256 (named (items_in trace)))
  unfolding report reported
  report-accepted = ap reported o.verdict

-- ---- and once it is run
text-in : (n : ℕ) (v : View) (words names : List ℕ) → v.fixed.count ≡ n → text_of (results_in n v words) names ≡ text_in v words names
unfolding text_of
text-in n v words names e = ap (text n) (length-below n (value_in v)) ∙ sym (ap (λ (k : ℕ). text k k) e)
  where
    text : ℕ → ℕ → List ℕ
    text places count =
        accepted_text count (values_in v places) (marks_in v places) (length v.order) v.order words names v.accesses v.merges v.rounds

module _ {items : Items} {m words : List ℕ} (r : RanTo items m words) where
  text-ran : (names : List ℕ) → text_of (results_of items) names ≡ text_in (view m) words names
  text-ran names = ap (λ (o : Results). text_of o names) (sym (results-are r)) ∙ text-in (length (requests_of items)) (view m) words names r.count-is

pub ran-text : {trace marks words m names m' words' : List ℕ} {r : Result Facts Refusal} {facts : Facts} → Loaded trace r marks words m →
    Loading trace facts m words → Marked (view m).fixed.address facts.requests marks names → RanTo (items_in trace) m' words' →
    report trace ≡ text_in (view m') words' names
ran-text {trace} {names = names} l o d ran =
    report-accepted o ∙ ap (text_of (results_of (items_in trace))) (sym (trace-named l (requests-told o) d)) ∙ text-ran ran names

-- ---- a buffer with room
pub reported-fits : (trace before : List ℕ) {after : List ℕ} {n : ℕ} → report_room ≤ length before → Printed (report trace) before after n →
    Reported trace before (Some n) after
reported-fits trace before room w =
    let yes = le-leb report_room (length before) room in
    record {
      len_is = ap Some w.size ∙ rw yes;
      text-is = w.bytes ∙ rw yes;
      counts = (printed-within w, w.size ∙ ap length (sym (printed-text w)));
    }
