-- What the functions of this crate left in the buffers is what the definition makes of the text.
use Prim.Native.Nat.{ℕ, ◌≤◌, min}
use mathlib.Core.Path.{◌≡◌, refl, ap, sym, ◌∙◌, subst}
use mathlib.Core.Logic.{◌≢◌}
use mathlib.Core.List.{List}
use native.Mathlib.Omega.{arith}
use lib.ListN.{length, take}
use lib.Seq.{take-append_seam}
use Rattle.std.specs.Prelude.{Option, Result as Answer, Ok, Err}
use Rattle.lists.specs.Over.{over}
use Rattle.digits.specs.Inner.Buffer.{Wrote}
use Rattle.digits.proofs.Buffer.{wrote-printed, printed-within, printed-text}
use Rattle.lines.specs.declared.Reason.{Reason}
use Rattle.trace.specs.Table.{size}
use Rattle.trace.specs.Write.{trace_of}
use Rattle.trace.proofs.Accept.{length-trace}
use Rattle.writing.specs.Rows.{Rows, row_count, entries}
use Rattle.writing.specs.Writing.{Result, refusal, acceptance, result, output_after, told}
use Rattle.writing.specs.Promise.{Promised}
use Rattle.writing.specs.declared.Written.{Written}
use Rattle.reading.specs.Text.{text_says, wrong_line}
use Rattle.reading.specs.Inner.Row.{first_rows}
use Rattle.reading.specs.Inner.Walk.{ItemsRead}
use Rattle.reading.proofs.Lent.{lent-items}
use Rattle.writer.specs.Told.{told_room, line_refused, wrong_text, refused_text}
use Rattle.writer.specs.Made.{list_made, read_made, text_made, MadeIn}
use Rattle.writer.proofs.Suffices.{first-suffice}
use Rattle.writer.proofs.Numbers.{result-some}

-- a line at the front of the buffer
told_in : {text before after : List ℕ} {len : ℕ} → Wrote before 0 text after len → len ≤ told_room → told_room ≤ length before →
    (take len after ≡ text) × (len ≤ length after)
told_in w few room = let printed = wrote-printed w (omega (arith, few, room)) in (printed-text printed, printed-within printed)

module _ {rows : Rows} {before after : List ℕ} {w : Written} (text : List ℕ) (p : Promised rows before w after) (long : length before ≡ 65536) where
  answer : w ≡ told (result (entries rows) 65536)
  answer = subst (λ (n : ℕ). w ≡ told (result (entries rows) n)) long p.answer-is

  output : after ≡ output_after (result (entries rows) 65536) before
  output = subst (λ (n : ℕ). after ≡ output_after (result (entries rows) n) before) long p.output-is

  pub refused-made : {line : Option ℕ} {len : ℕ} {lent told' : List ℕ} → w.refusal ≢ 0 → line ≡ line_refused text w.refusal w.row →
      Wrote lent 0 (refused_text w.refusal w.offset line) told' len → len ≤ told_room → told_room ≤ length lent →
      MadeIn (list_made text (result (entries rows) 65536)) (Err len) after told'
  unfolding list_made
  refused-made {line = line} {len = len} {told' = told'} some e written few room = go (result (entries rows) 65536) answer
    where
      line-told : (take len told' ≡ refused_text w.refusal w.offset line) × (len ≤ length told')
      line-told = told_in written few room

      go : (r : Result) → w ≡ told r → MadeIn (list_made text r) (Err len) after told'
      go (refusal number offset row) a = record {
        trace-is = refl;
        told_is =
            line-told.0 ∙ ap (refused_text w.refusal w.offset) e
            ∙ ap (λ (v : Written). refused_text v.refusal v.offset (line_refused text v.refusal v.row)) a;
        trace-counts = omega arith;
        told-counts = line-told.1;
      }
      go (acceptance xs) a = absurd (some (ap (λ (v : Written). v.refusal) a))

  pub accepted-made : {lent : List ℕ} → w.refusal ≡ 0 →
      MadeIn (list_made text (result (entries rows) 65536)) (Ok w.len) after lent
  unfolding list_made output_after
  accepted-made {lent = lent} none = go (result (entries rows) 65536) refl answer output
    where
      go : (r : Result) → result (entries rows) 65536 ≡ r → w ≡ told r → after ≡ output_after r before →
          MadeIn (list_made text r) (Ok w.len) after lent
      go (refusal number offset row) e a o =
          absurd (omega (arith, result-some (entries rows) 65536 number offset row e, ap (λ (v : Written). v.refusal) a, none))
      go (acceptance xs) e a o = record {
        trace-is =
            ap (λ (v : Written). take v.len after) a ∙ ap (take (size xs)) o
            ∙ ap (λ (n : ℕ). take n (over (trace_of xs) before)) (sym (length-trace xs)) ∙ take-append_seam (trace_of xs) _;
        told_is = refl;
        trace-counts = p.counts;
        told-counts = omega arith;
      }

pub wrong-made : (text : List ℕ) {out lent told' : List ℕ} {number : ℕ} {reason : Reason} {place len : ℕ} → text_says text ≡ wrong_line number reason place →
    Wrote lent 0 (wrong_text number reason place) told' len → len ≤ told_room → told_room ≤ length lent →
    MadeIn (text_made text) (Err len) out told'
unfolding text_made read_made
wrong-made text e written few room =
    let line = told_in written few room in
    rw e (record { trace-is = refl; told_is = line.0; trace-counts = omega arith; told-counts = line.1 })

pub items-made : (text : List ℕ) {out told' : List ℕ} {before : Rows} {n : ℕ} {r : Rows} {l : Answer ℕ ℕ} → ItemsRead text before n r → row_count before ≡ 10923 →
    MadeIn (list_made text (result (entries (first_rows n r)) 65536)) l out told' → MadeIn (text_made text) l out told'
unfolding text_made read_made
items-made text {out = out} {told' = told'} {before = before} {n = n} {l = l} read many made =
    let few : n ≡ min (length read.xs) 10923 = read.many ∙ ap (min (length read.xs)) many in
    rw read.says_is
    (subst (λ (r : Result). MadeIn (list_made text r) l out told') (first-suffice read.xs n few)
    (rw (lent-items read) at made))
