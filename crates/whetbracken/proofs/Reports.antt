-- No report is empty, so the length 0 says that the buffer was too small.
use Prim.Native.Nat.{ℕ, ◌<◌}
use mathlib.Core.Path.{◌≡◌, refl, ◌∙◌, ap}
use mathlib.Core.Bool.{Bool, true, false}
use mathlib.Core.List.{List, ◌++◌}
use native.Mathlib.Omega.{arith}
use lib.ListN.{length, length-append}
use lib.Dec.{leb}
use Rattle.std.specs.Prelude.{Option, Some, None, unwrap_or}
use Rattle.lists.specs.Choice.{choose}
use Rattle.digits.specs.Numeral.{bytes_of}
use Rattle.text.specs.Text.{reply_lines, order_lines, word_lines, count_lines, accepted_text, refused_text}
use Rattle.trace.specs.Check.{Verdict, refused, accepted, check}
use Rattle.report.specs.Report.{text_of, reported, report}
use Rattle.report.specs.Written.{report_room}
use Rattle.whetbracken.specs.Interface.{Wrote}

some-last : (a b c d : List ℕ) → 0 < length d → 0 < length (a ++ b ++ c ++ d)
some-last a b c d h = simp length-append (omega arith)

counts_some : (accesses merges rounds : ℕ) → 0 < length (count_lines accesses merges rounds)
unfolding count_lines bytes_of
counts_some accesses merges rounds = omega arith

accepted-some : (R : ℕ) (values marks : List ℕ) (n : ℕ) (order words named : List ℕ) (accesses merges rounds : ℕ) →
    0 < length (accepted_text R values marks n order words named accesses merges rounds)
unfolding accepted_text
accepted-some R values marks n order words named accesses merges rounds =
    let sections = some-last (reply_lines R values marks) (order_lines n order) (word_lines 256 words named) (count_lines accesses merges rounds) in
    sections (counts_some accesses merges rounds)

verdict-some : (v : Verdict) → 0 < length (reported v)
unfolding reported text_of refused_text bytes_of
verdict-some (refused n before) = omega arith
verdict-some (accepted items) = accepted-some _ _ _ _ _ _ _ _ _ _

report-some : (trace : List ℕ) → 0 < length (report trace)
unfolding report
report-some trace = verdict-some (check trace)

pub none-no-room : {trace before after : List ℕ} → Wrote trace before 0 after → leb report_room (length before) ≡ false
none-no-room {trace} {before} w = go (leb report_room (length before)) (w.len_is ∙ ap (λ (r : Option ℕ). unwrap_or r 0) w.reported.len_is)
  where
    go : (b : Bool) → 0 ≡ unwrap_or (choose b (Some (length (report trace))) None) 0 → b ≡ false
    go true e = absurd (omega (arith, report-some trace))
    go false e = refl
