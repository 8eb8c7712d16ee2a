-- Laws of a section of a report: lines that follow one another.
use Prim.Native.Nat.{ℕ, ◌+◌, ◌*◌, ◌<◌}
use mathlib.Core.Path.{◌≡◌, refl, subst}
use mathlib.Core.List.{List, [], ◌++◌}
use native.Mathlib.Numerals.{add-one}
use native.Mathlib.Omega.{arith}
use lib.ListN.{get_or}
use Rattle.digits.specs.Inner.Buffer.{HasRoom, WritesWithin}
use Rattle.digits.specs.declared.LentBuffer.{LentBuffer}
use Rattle.digits.proofs.Buffer.{writes_nothing, within_then, room-within}
use Rattle.text.specs.Text.{line_room, reply_line, order_line, word_line, reply_lines, order_lines, word_lines}

-- the first n lines are none, or those before the last and the last
pub record Section (lines line : ℕ → List ℕ) : Type 0 where
  pub none : lines 0 ≡ []
  pub more : (n : ℕ) → lines (n + 1) ≡ lines n ++ line n

pub replies : (values marks : List ℕ) → Section (λ n. reply_lines n values marks) (λ n. reply_line n (get_or values n 0) (get_or marks n 0))
unfolding reply_lines
replies values marks = record { none = refl; more = λ n. rw add-one }

pub orders : (order : List ℕ) → Section (λ n. order_lines n order) (λ n. order_line (get_or order n 0))
unfolding order_lines
orders order = record { none = refl; more = λ n. rw add-one }

pub addresses : (words named : List ℕ) → Section (λ n. word_lines n words named) (λ n. word_line n (get_or words n 0) (get_or named n 0))
unfolding word_lines
addresses words named = record { none = refl; more = λ n. rw add-one }

module _ {lines line : ℕ → List ℕ} (s : Section lines line) where
  pub section-starts : (out : LentBuffer) → WritesWithin (line_room * 0) out (lines 0) out
  section-starts out = rw s.none (record { writes = writes_nothing out; short = omega arith })

  -- the first n of them are written
  module _ {out middle : LentBuffer} (n : ℕ) (w : WritesWithin (line_room * n) out (lines n) middle) where
    pub section-room : (count : ℕ) → n < count → HasRoom out (line_room * count) → HasRoom middle line_room
    section-room count l room = room-within w line_room (omega arith)

    pub section-goes : {after : LentBuffer} → WritesWithin line_room middle (line n) after → WritesWithin (line_room * (n + 1)) out (lines (n + 1)) after
    section-goes {after} v = let size : line_room * n + line_room ≡ line_room * (n + 1) = omega arith in
        rw s.more (subst (λ (room : ℕ). WritesWithin room out (lines n ++ line n) after) size (within_then w v))
