-- The sections of a report as they are written.
use Prim.Native.Nat.{ℕ, ◌*◌}
use mathlib.Core.Path.{◌≡◌, ◌∙◌, ap}
use mathlib.Core.List.{List}
use native.Mathlib.Omega.{arith}
use lib.ListN.{length, take, replicate}
use lib.Seq.{take_at}
use Rattle.lists.proofs.Below.{length-below}
use Rattle.lists.specs.Over.{over}
use Rattle.digits.specs.Inner.Buffer.{WritesWithin}
use Rattle.digits.specs.declared.LentBuffer.{LentBuffer}
use Rattle.digits.proofs.Buffer.{within_then, within-more}
use Rattle.text.specs.Text.{line_room, reply_lines, word_lines, count_lines, accepted_text}
use Rattle.view.specs.Inner.View.{View}
use Rattle.results.specs.Inner.Copied.{value_in, values_in, mark_in, marks_in}
use Rattle.report.specs.Written.{report_room}
use Rattle.report.specs.Inner.Lines.{Printable, replies_in, orders_in, text_in}

-- ---- from the arrays that were filled: what was copied over their front
abbrev blank : List ℕ
blank = replicate 256 0

front : (n : ℕ) (new array : List ℕ) → length new ≡ n → array ≡ over new blank → take n array ≡ new
front n new array size e = ap (take n) e ∙ take_at new _ n size

module _ (v : View) (fits : Printable v) where
  pub wrote-replies : {out after : LentBuffer} {values marks : List ℕ} {n : ℕ} → n ≡ v.fixed.count →
      values ≡ over (values_in v n) blank → marks ≡ over (marks_in v n) blank →
      WritesWithin (line_room * length (take n values)) out (reply_lines (length (take n values)) (take n values) (take n marks)) after →
      WritesWithin (line_room * 256) out (replies_in v) after
  wrote-replies {values = values} {marks} {n} e values-are marks-are w =
      let copied = front n (values_in v n) values (length-below n (value_in v)) values-are in
      let marked = front n (marks_in v n) marks (length-below n (mark_in v)) marks-are in
      within-more (omega (arith, fits.requests-few)) (rw (copied, marked, length-below n (value_in v), e) at w)

-- ---- one behind another
pub wrote-sections : (v : View) (words named : List ℕ) {out one two three after : LentBuffer} {accesses merges rounds : ℕ} →
    WritesWithin (line_room * 256) out (replies_in v) one → WritesWithin (line_room * 256) one (orders_in v) two →
    WritesWithin (line_room * 256) two (word_lines 256 words named) three →
    accesses ≡ v.accesses → merges ≡ v.merges → rounds ≡ v.rounds → WritesWithin (line_room * 3) three (count_lines accesses merges rounds) after →
    WritesWithin report_room out (text_in v words named) after
unfolding accepted_text
wrote-sections v words named {three = three} {after = after} first second third accesses-are merges-are rounds-are last =
    let counts : WritesWithin (line_room * 3) three (count_lines v.accesses v.merges v.rounds) after = rw (← accesses-are, ← merges-are, ← rounds-are) last in
    within_then (within_then (within_then first second) third) counts
