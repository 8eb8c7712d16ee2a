-- What was read, by the answer of `read`, and how many rows the arrays have.
use Prim.Native.Nat.{ℕ}
use mathlib.Core.Path.{◌≡◌, subst}
use mathlib.Core.List.{List}
use lib.ListN.{length}
use Rattle.writing.specs.Rows.{Rows, row_count}
use Rattle.reading.specs.Text.{text_says, wrong_line}
use Rattle.reading.specs.Inner.Walk.{ReadRows, Told, ItemsRead}
use Rattle.reading.specs.declared.WrongLine.{WrongLine}
use Rattle.std.specs.Prelude.{Result, Ok, Err}

pub items-read : {text : List ℕ} {before r : Rows} {answer : Result ℕ WrongLine} {n : ℕ} →
    ReadRows text before answer r → answer ≡ Ok n → ItemsRead text before n r
items-read {text = text} {before = before} {r = r} w e = subst (λ (a : Result ℕ WrongLine). Told text before a r) e w.told

pub wrong-read : {text : List ℕ} {before r : Rows} {answer : Result ℕ WrongLine} {line : WrongLine} →
    ReadRows text before answer r → answer ≡ Err line → text_says text ≡ wrong_line line.number line.wrong.reason line.wrong.place
wrong-read {text = text} {before = before} {r = r} w e = subst (λ (a : Result ℕ WrongLine). Told text before a r) e w.told

pub rows-many : (before : Rows) → length before.heads ≡ 21846 → length before.bytes ≡ 109230 → length before.words ≡ 87384 → row_count before ≡ 10923
unfolding row_count
rows-many before heads bytes words = rw (heads, bytes, words)
