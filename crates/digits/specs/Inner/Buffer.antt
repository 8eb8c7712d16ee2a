-- What it is to write a text into a lent buffer.
use Rattle.std.specs.Prelude.{ℕ, ◌+◌, ◌≡◌, ◌≤◌, List, ◌++◌, length, drop}
use Rattle.std.proofs.lemmas.List.Edits.{sets}
use Rattle.digits.specs.declared.LentBuffer.{LentBuffer}

-- so many bytes fit behind what is written
abbrev pub HasRoom : LentBuffer → ℕ → Type 0
HasRoom out n = out.at + n ≤ length out.bytes.now

-- the text stands from the offset on, every other byte is as before, and the next offset is behind the text
pub record Wrote (before : List ℕ) (at : ℕ) (text after : List ℕ) (next : ℕ) : Type 0 where
  pub bytes : after ≡ sets before at text
  pub behind : next ≡ at + length text

-- in one buffer, the text is written behind what was
pub record Writes (before : LentBuffer) (text : List ℕ) (after : LentBuffer) : Type 0 where
  pub lent : after.bytes.ghost_name ≡ before.bytes.ghost_name
  pub wrote : Wrote before.bytes.now before.at text after.bytes.now after.at

-- and the text has at most so many bytes
pub record WritesWithin (room : ℕ) (before : LentBuffer) (text : List ℕ) (after : LentBuffer) : Type 0 where
  pub writes : Writes before text after
  pub short : after.at ≤ before.at + room

-- "prints": the buffer begins with the text, every byte behind it is as before, and the result is the text's length
pub record Printed (text before after : List ℕ) (r : ℕ) : Type 0 where
  pub bytes : after ≡ text ++ drop (length text) before
  pub size : r ≡ length text
