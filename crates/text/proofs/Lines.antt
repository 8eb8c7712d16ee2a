-- The length of a report's lines.
use Prim.Native.Nat.{ℕ, ◌*◌, ◌^◌, ◌≤◌, ◌<◌}
use mathlib.Core.List.{[], ◌∷◌}
use native.Mathlib.Omega.{arith}
use lib.ListN.{length, length-append}
use lib.Dec.{eqb}
use Rattle.lists.specs.Choice.{choose}
use Rattle.lists.proofs.Tests.{test-cases}
use Rattle.digits.specs.Numeral.{bytes_of, decimal}
use Rattle.digits.specs.Line.{line}
use Rattle.digits.proofs.Numerals.{decimal-word}
use Rattle.text.specs.Text.{line_room, reply_line, order_line, word_line, count_lines, refused_text}

pub reply_line-length : (tag value mark : ℕ) → tag < 2 ^ 64 → value < 2 ^ 64 → length (reply_line tag value mark) ≤ line_room
unfolding reply_line bytes_of
reply_line-length tag value mark ht hv =
    test-cases (λ b. length (line (bytes_of "reply" ∷ decimal tag ∷ choose b (bytes_of "-") (decimal value) ∷ [])) ≤ line_room) (eqb mark 0)
    (λ e. simp length-append (omega (arith, decimal-word tag ht)))
    (λ e. simp length-append (omega (arith, decimal-word tag ht, decimal-word value hv)))

pub order_line-length : (tag : ℕ) → tag < 2 ^ 64 → length (order_line tag) ≤ line_room
unfolding order_line bytes_of
order_line-length tag h = simp length-append (omega (arith, decimal-word tag h))

pub word_line-length : (address value named : ℕ) → address < 2 ^ 64 → value < 2 ^ 64 → length (word_line address value named) ≤ line_room
unfolding word_line bytes_of
word_line-length address value named ha hv =
    test-cases (λ b. length (choose b [] (line (bytes_of "word" ∷ decimal address ∷ decimal value ∷ []))) ≤ line_room) (eqb named 0)
    (λ e. omega arith)
    (λ e. simp length-append (omega (arith, decimal-word address ha, decimal-word value hv)))

pub count_lines-length : (accesses merges rounds : ℕ) → accesses < 2 ^ 64 → merges < 2 ^ 64 → rounds < 2 ^ 64 →
    length (count_lines accesses merges rounds) ≤ line_room * 3
unfolding count_lines bytes_of
count_lines-length accesses merges rounds ha hm hr =
    simp length-append (omega (arith, decimal-word accesses ha, decimal-word merges hm, decimal-word rounds hr))

pub refused_text-length : (number offset : ℕ) → number < 2 ^ 64 → offset < 2 ^ 64 → length (refused_text number offset) ≤ line_room
unfolding refused_text bytes_of
refused_text-length number offset hn ho = simp length-append (omega (arith, decimal-word number hn, decimal-word offset ho))
