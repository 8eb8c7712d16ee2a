-- Laws of a text read line by line: what stands in front, and what the next line adds.
use Prim.Native.Nat.{ℕ, suc, ◌-◌}
use mathlib.Core.Path.{◌≡◌, refl, sym, ap, ◌∙◌}
use mathlib.Core.Logic.{◌≢◌}
use mathlib.Core.List.{List, [], ◌∷◌, ◌++◌, append-nil}
use native.Mathlib.Omega.{arith}
use lib.ListN.{length}
use Rattle.trace.specs.Item.{Item}
use Rattle.lines.specs.Said.{Said, skipped, says, wrong, line_says}
use Rattle.lines.specs.declared.Reason.{Reason}
use Rattle.std.specs.Prelude.{Some, None, slice_get}
use Rattle.writing.specs.Rows.{Rows}
use Rattle.reading.specs.Text.{lines_of, Read, items, wrong_line, push, line_then, read_from, text_says, item_then, item_lines_from, item_lines}
use Rattle.reading.specs.Inner.Walk.{LineNext, in_front, rest_says, rest_items, RowsHold, Walked, Sought}
use Rattle.reading.proofs.Lines.{lines_next, lines-ended}

-- ---- items in front
front_items : (xs ys : List Item) → in_front xs (items ys) ≡ items (xs ++ ys)
unfolding in_front push
front_items [] ys = refl
front_items (x ∷ xs) ys = ap (push x) (front_items xs ys)

front-wrong : (xs : List Item) (line : ℕ) (reason : Reason) (place : ℕ) → in_front xs (wrong_line line reason place) ≡ wrong_line line reason place
unfolding in_front push
front-wrong [] line reason place = refl
front-wrong (x ∷ xs) line reason place = ap (push x) (front-wrong xs line reason place)

front-more : (xs : List Item) (x : Item) (rest : Read) → in_front xs (push x rest) ≡ in_front (xs ++ (x ∷ [])) rest
unfolding in_front
front-more [] x rest = refl
front-more (y ∷ xs) x rest = ap (push y) (front-more xs x rest)

-- ---- the next line
module _ {passed number passed' : ℕ} {rest line behind : List ℕ} (l : LineNext passed rest number line passed' behind) where
  lines_are : lines_of rest ≡ line ∷ lines_of behind
  lines_are = lines_next rest l.split.some ∙ rw (l.split.line_is, l.split.rest-is)

  module _ {said : Said} (e : line_says line ≡ said) where
    rest-is : rest_says passed rest ≡ line_then number said (rest_says passed' behind)
    unfolding read_from
    rest-is = rw (l.number_is, l.passed_is)
        (ap (read_from (suc passed)) lines_are ∙ ap (λ (s : Said). line_then (suc passed) s (rest_says (suc passed) behind)) e)

    items-are : rest_items passed rest ≡ item_then number said (rest_items passed' behind)
    unfolding item_lines_from
    items-are = rw (l.number_is, l.passed_is)
        (ap (item_lines_from (suc passed)) lines_are ∙ ap (λ (s : Said). item_then (suc passed) s (rest_items (suc passed) behind)) e)

  -- ---- what is known behind it
  module _ {text : List ℕ} {before : Rows} {n : ℕ} {r : Rows} (w : Walked text before passed rest n r) where
    pub walked-skipped : line_says line ≡ skipped → Walked text before passed' behind n r
    unfolding line_then
    walked-skipped e = record { xs = w.xs; so_far = w.so_far ∙ ap (in_front w.xs) (rest-is e); kept = w.kept }

    pub walked-item : {x : Item} {n' : ℕ} {r' : Rows} → line_says line ≡ says x →
        RowsHold before (w.xs ++ (x ∷ [])) n' r' → Walked text before passed' behind n' r'
    unfolding line_then
    walked-item {x} e held = record {
      xs = w.xs ++ (x ∷ []);
      so_far = w.so_far ∙ ap (in_front w.xs) (rest-is e) ∙ front-more w.xs x (rest_says passed' behind);
      kept = held;
    }

    pub walked-wrong : {reason : Reason} {place : ℕ} → line_says line ≡ wrong reason place → text_says text ≡ wrong_line number reason place
    unfolding line_then
    walked-wrong {reason} {place} e = w.so_far ∙ ap (in_front w.xs) (rest-is e) ∙ front-wrong w.xs number reason place

  module _ {text : List ℕ} {row left : ℕ} (w : Sought text row passed rest left) where
    pub sought-skipped : line_says line ≡ skipped → Sought text row passed' behind left
    unfolding item_then
    sought-skipped e = record { so_far = w.so_far ∙ ap (λ (ls : List ℕ). slice_get ls left) (items-are e) }

    pub sought-wrong : {reason : Reason} {place : ℕ} → line_says line ≡ wrong reason place → Sought text row passed' behind left
    unfolding item_then
    sought-wrong e = record { so_far = w.so_far ∙ ap (λ (ls : List ℕ). slice_get ls left) (items-are e) }

    pub sought-found : {x : Item} → line_says line ≡ says x → left ≡ 0 → Some number ≡ slice_get (item_lines text) row
    unfolding item_then
    sought-found e none = sym (w.so_far ∙ ap (λ (ls : List ℕ). slice_get ls left) (items-are e)
        ∙ ap (λ (i : ℕ). slice_get (number ∷ rest_items passed' behind) i) none)

    pub sought-item : {x : Item} → line_says line ≡ says x → left ≢ 0 → Sought text row passed' behind (left - 1)
    unfolding item_then
    sought-item e some = let one : left ≡ suc (left - 1) = omega (arith, some) in record {
      so_far = w.so_far ∙ ap (λ (ls : List ℕ). slice_get ls left) (items-are e)
          ∙ ap (λ (i : ℕ). slice_get (number ∷ rest_items passed' behind) i) one;
    }

-- ---- the start
pub walked_start : (text : List ℕ) (r : Rows) → RowsHold r [] 0 r → Walked text r 0 text 0 r
unfolding text_says in_front
walked_start text r none = record { xs = []; so_far = refl; kept = none }

pub sought-start : (text : List ℕ) (row : ℕ) → Sought text row 0 text row
unfolding item_lines
sought-start text row = record { so_far = refl }

-- ---- the end
pub walked_end : {text : List ℕ} {before : Rows} {passed : ℕ} {rest : List ℕ} {n : ℕ} {r : Rows} (w : Walked text before passed rest n r) → length rest ≡ 0 →
    text_says text ≡ items w.xs
unfolding read_from
walked_end {passed = passed} {rest = rest} w h =
    w.so_far
    ∙ ap (λ (ls : List (List ℕ)). in_front w.xs (read_from (suc passed) ls)) (lines-ended rest h)
    ∙ front_items w.xs []
    ∙ ap items (append-nil w.xs)

pub sought-end : {text : List ℕ} {row passed : ℕ} {rest : List ℕ} {left : ℕ} → Sought text row passed rest left → length rest ≡ 0 → None ≡ slice_get (item_lines text) row
unfolding item_lines_from
sought-end {passed = passed} {rest = rest} {left = left} w h =
    sym (w.so_far
    ∙ ap (λ (ls : List (List ℕ)). slice_get (item_lines_from (suc passed) ls) left) (lines-ended rest h))
