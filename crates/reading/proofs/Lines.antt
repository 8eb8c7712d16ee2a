-- Laws of lines: where one ends, and the lines behind it.
use Prim.Native.Nat.{ℕ, zero, suc, ◌-◌, ◌≤◌, ◌<◌, min}
use mathlib.Core.Path.{◌≡◌, refl, sym, ap, ◌∙◌}
use mathlib.Core.List.{List, [], ◌∷◌}
use native.Mathlib.Omega.{arith}
use lib.ListN.{length, take, drop, length-drop, drop_of_length-le}
use lib.Seq.{take_all}
use borrow.Author.Tests.{eq-eqb, ne_eqb}
use Rattle.lists.proofs.Tests.{choose_yes, choose_no, below-cases}
use Rattle.lines.specs.Said.{leading}
use Rattle.reading.specs.Text.{in_line, lines_up_to, lines_of}

-- ---- the lines one by one
lines_step : (most : ℕ) (s : List ℕ) → 0 < length s →
    lines_up_to (suc most) s ≡ take (leading in_line s) s ∷ lines_up_to most (drop (suc (leading in_line s)) s)
unfolding lines_up_to
lines_step most s h = choose_no _ _ (ne_eqb (length s) 0 (omega arith))

lines_none : (most : ℕ) (s : List ℕ) → length s ≡ 0 → lines_up_to most s ≡ []
unfolding lines_up_to
lines_none zero s e = refl
lines_none (suc most) s e = choose_yes _ _ (eq-eqb (length s) 0 e)

-- a most that is large enough does not matter
lines-any : (m n : ℕ) (s : List ℕ) → length s ≤ m → length s ≤ n → lines_up_to m s ≡ lines_up_to n s
lines-any zero n s h k = lines_none zero s (omega arith) ∙ sym (lines_none n s (omega arith))
lines-any (suc m) zero s h k = lines_none (suc m) s (omega arith) ∙ sym (lines_none zero s (omega arith))
lines-any (suc m) (suc n) s h k =
    let rest = drop (suc (leading in_line s)) s in
    let short = length-drop (suc (leading in_line s)) s in
    below-cases 0 (length s)
    (λ some. lines_step m s some
    ∙ ap (λ (ls : List (List ℕ)). take (leading in_line s) s ∷ ls) (lines-any m n rest (omega (arith, short)) (omega (arith, short)))
    ∙ sym (lines_step n s some))
    (λ none. lines_none (suc m) s (omega arith) ∙ sym (lines_none (suc n) s (omega arith)))

pub lines_next : (s : List ℕ) → 0 < length s → lines_of s ≡ take (leading in_line s) s ∷ lines_of (drop (suc (leading in_line s)) s)
unfolding lines_of
lines_next [] h = absurd (omega arith)
lines_next (c ∷ s) h =
    let rest = drop (leading in_line (c ∷ s)) s in
    let short : length rest ≤ length s = omega (arith, length-drop (leading in_line (c ∷ s)) s) in
    lines_step (length s) (c ∷ s) h
    ∙ ap (λ (ls : List (List ℕ)). take (leading in_line (c ∷ s)) (c ∷ s) ∷ ls) (lines-any (length s) (length rest) rest short (omega arith))

pub lines-ended : (s : List ℕ) → length s ≡ 0 → lines_of s ≡ []
unfolding lines_of
lines-ended s e = lines_none (length s) s e

-- ---- what stands behind a newline, if the text has one there
pub line-passed : (text : List ℕ) (end next : ℕ) → next ≡ min (suc end) (length text) → take (length text - next) (drop next text) ≡ drop (suc end) text
line-passed text end next e =
    let all : length (drop next text) ≤ length text - next = omega (arith, length-drop next text) in
    take_all (length text - next) (drop next text) all ∙ below-cases end (length text)
    (λ b. let same : next ≡ suc end = omega (arith, e) in ap (λ (n : ℕ). drop n text) same)
    (λ b. drop_of_length-le text {i = next} (omega (arith, e)) ∙ sym (drop_of_length-le text {i = suc end} (omega arith)))
