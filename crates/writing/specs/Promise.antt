-- What the writer promises, for every list of rows and every lent output: request No. 1 of document 02.
use Rattle.std.specs.Prelude.{ℕ, ◌≤◌, ◌≡◌, List, length, take}
use Rattle.trace.specs.Item.{Items}
use Rattle.trace.specs.Table.{size}
use Rattle.trace.specs.Check.{accepted, check}
use Rattle.writing.specs.Rows.{Rows, entries}
use Rattle.writing.specs.Writing.{acceptance, result, output_after, told}
use Rattle.writing.specs.declared.Written.{Written}

pub record Promised (rows : Rows) (before : List ℕ) (r : Written) (after : List ℕ) : Type 0 where
  -- the answer, and the final content of the output
  pub answer-is : r ≡ told (result (entries rows) (length before))
  pub output-is : after ≡ output_after (result (entries rows) (length before)) before
  -- "Reading what it wrote gives the same items"
  pub again : (xs : Items) → result (entries rows) (length before) ≡ acceptance xs → check (take (size xs) after) ≡ accepted xs
  -- so that a caller may take the part that was written
  pub counts : r.len ≤ length after
