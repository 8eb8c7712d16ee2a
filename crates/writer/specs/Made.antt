-- What the writer makes of a text: request No. 1 of document 02.
use Rattle.std.specs.Prelude.{ℕ, ◌≤◌, ◌≡◌, List, [], map, length, take, Result as Answer, Ok, Err}
use Rattle.trace.specs.Write.{trace_of}
use Rattle.writing.specs.Rows.{known}
use Rattle.writing.specs.Writing.{Result, refusal, acceptance, result}
use Rattle.reading.specs.Text.{Read, items, wrong_line, text_says}
use Rattle.writer.specs.Told.{line_refused, wrong_text, refused_text}

-- the trace for standard output, and the line for standard error: one of them is empty
pub record Made : Type 0 where
  pub trace : List ℕ
  pub told : List ℕ

-- "A refused list: nothing on standard output, on standard error `refused N OFFSET line L`"
unfoldable pub list_made : List ℕ → Result → Made
list_made text (refusal number offset row) = record { trace = []; told = refused_text number offset (line_refused text number row) }
list_made text (acceptance xs) = record { trace = trace_of xs; told = [] }

-- "A line that is no item is told before anything of the list, with nothing on standard output"
unfoldable pub read_made : List ℕ → Read → Made
read_made text (items xs) = list_made text (result (map known xs) 65536)
read_made text (wrong_line number reason place) = record { trace = []; told = wrong_text number reason place }

unfoldable pub text_made : List ℕ → Made
text_made text = read_made text (text_says text)

-- how long each is, by the code's answer
abbrev pub trace_length : Answer ℕ ℕ → ℕ
trace_length (Ok n) = n
trace_length (Err n) = 0

abbrev pub told_length : Answer ℕ ℕ → ℕ
told_length (Ok n) = 0
told_length (Err n) = n

-- both stand at the front of lent buffers
pub record MadeIn (m : Made) (r : Answer ℕ ℕ) (out told : List ℕ) : Type 0 where
  pub trace-is : take (trace_length r) out ≡ m.trace
  pub told_is : take (told_length r) told ≡ m.told
  -- so that a caller may take the parts that were written
  pub trace-counts : trace_length r ≤ length out
  pub told-counts : told_length r ≤ length told
