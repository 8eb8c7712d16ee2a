-- What the C interface promises, for every trace and all lent memory: the promises of `model`, `report` and `listing`, the answer in six
-- numbers. The writer's is its own (writing/specs/Promise).
use Rattle.std.specs.Prelude.{ℕ, ◌≡◌, List, Option, unwrap_or}
use Rattle.report.specs.Written.{Reported}
use Rattle.listing.specs.Listing.{Listed}
use Rattle.model.specs.Result.{Lent}
use Rattle.model.specs.Promise.{Said, refused, counted, Answer, says}
use Rattle.model.specs.Demands.{Kept}
use Rattle.whetbracken.specs.declared.Numbers.{Numbers}

-- "The answer is the number and the offset"; "Also returned: order length, module accesses .., merges, rounds". No refusal has number
-- 0, and what is not told is 0.
abbrev pub numbers : Said → Numbers
numbers (refused n offset) = record { refusal = n; offset = offset; ordered = 0; accesses = 0; merges = 0; rounds = 0 }
numbers (counted ordered accesses merges rounds) = record { refusal = 0; offset = 0; ordered = ordered; accesses = accesses; merges = merges; rounds = rounds }

-- the numbers of an answer that keeps the promise of `model` and meets the demands, with the final content of all lent memory
pub record Answered (trace : List ℕ) (before : Lent) (r : Numbers) (after : Lent) : Type 0 where
  pub answer : Answer
  pub numbers-are : r ≡ numbers (says answer)
  pub kept : Kept trace before answer after

-- the length of what keeps the promise of `report`: 0 where the buffer has no room for every report, and then it stays
pub record Wrote (trace before : List ℕ) (len : ℕ) (after : List ℕ) : Type 0 where
  pub written : Option ℕ
  pub len_is : len ≡ unwrap_or written 0
  pub reported : Reported trace before written after

-- the length of what keeps the promise of `listing`: 0 where the buffer has no room for every listing, and then it stays
pub record ItemsPrinted (trace before : List ℕ) (len : ℕ) (after : List ℕ) : Type 0 where
  pub printed : Option ℕ
  pub len_is : len ≡ unwrap_or printed 0
  pub listed : Listed trace before printed after
