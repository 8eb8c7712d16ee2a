-- What may be told of an input that was read. Which bytes came no contract of the system's reads says: what it has left is not known.
use Rattle.std.specs.Prelude.{ℕ, ◌≡◌, ◌<◌, List, length, take, Option}
use Rattle.std.specs.Borrow.{Bor, MutBor}
use Rattle.std.specs.Io.KnownBytes.{Consumes, IsAtEnd}
use Rattle.io.specs.Counts.{IsPrefixLen}

-- the first n bytes of a buffer are what a reader gave, and it has no more, or the buffer no more room
pub record ReadWhole (before after : Option (List ℕ)) (n : ℕ) (buffer : List ℕ) : Type 0 where
  -- so that a caller may take the part that was read
  pub prefix_len : IsPrefixLen n buffer
  pub bytes : Consumes before after (take n buffer)
  pub whole : n < length buffer → IsAtEnd after

-- a call at these bytes and this text gave r, and left this text
pub record MadeOf (post : Bor (List ℕ) → MutBor (List ℕ) → Option ℕ → MutBor (List ℕ) → Type 0) (bytes before : List ℕ) (r : Option ℕ) (after : List ℕ) : Type 0 where
  pub shown : Bor (List ℕ)
  pub lent : MutBor (List ℕ)
  pub left : MutBor (List ℕ)
  pub gave : post shown lent r left
  pub shows : shown.now ≡ bytes
  pub lends : lent.now ≡ before
  pub leaves : left.now ≡ after
