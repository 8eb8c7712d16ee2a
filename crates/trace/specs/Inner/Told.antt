-- What a head and an answer of the code say of a trace.
use Rattle.std.specs.Prelude.{ℕ, ◌+◌, ◌≤◌, List, ◌≡◌, length, drop, Option, Some, None, Result, Ok, Err}
use Rattle.trace.specs.Item.{Items}
use Rattle.trace.specs.Table.{size}
use Rattle.trace.specs.Records.{Split, nothing, faulty, whole, split}
use Rattle.trace.specs.Contents.{shape_of, requests_of, acts_offset}
use Rattle.trace.specs.Check.{Verdict, refused, accepted}
use Rattle.trace.specs.declared.Fault.{Fault}
use Rattle.trace.specs.declared.record.Record.{Record}
use Rattle.trace.specs.declared.Facts.{Facts}
use Rattle.trace.specs.declared.Refusal.{Refusal}
use Rattle.trace.specs.Answers.{number_of}
use Rattle.trace.specs.Inner.Kinds.{number_of_kind}
use Rattle.trace.specs.Inner.Known.{Bodied}

-- what a head says of what stands there
abbrev pub head_says : Result (Option Record) Fault → Split
head_says (Ok None) = nothing
head_says (Err f) = faulty (number_of f)
head_says (Ok (Some r)) = whole (number_of_kind r.kind) r.body.now

-- the record that a head announces lies in a trace of n bytes, and the table has a row of its kind and its body's length
pub record RecordFits (n at : ℕ) (r : Record) : Type 0 where
  pub inside : at + 4 + length r.body.now ≤ n
  pub bodied : Bodied (number_of_kind r.kind) r.body.now

-- of a head that announces one
abbrev pub HeadFits : ℕ → ℕ → Result (Option Record) Fault → Type 0
HeadFits n at (Ok None) = Unit {0}
HeadFits n at (Err f) = Unit {0}
HeadFits n at (Ok (Some r)) = RecordFits n at r

-- the head that is read of the trace s at offset `at`
pub record HeadRead (s : List ℕ) (at : ℕ) (r : Result (Option Record) Fault) : Type 0 where
  pub says : head_says r ≡ split (drop at s)
  pub fits : HeadFits (length s) at r

-- what a trace is told: a number and an offset, or that it is accepted, and what it says of itself
pub data TraceTold : Type 0 where
  refusal : ℕ → ℕ → TraceTold
  acceptance : Facts → TraceTold

-- k, Q, W, R and the offset of the first act
abbrev pub facts_of : Items → Facts
facts_of xs = record { k = (shape_of xs).k; q = (shape_of xs).q; w = (shape_of xs).w; requests = length (requests_of xs); acts_at = acts_offset xs }

-- "The answer is the number and the offset of the faulty record's first byte; for 10 .. and an empty trace the offset is 0"
abbrev pub answered : Verdict → TraceTold
answered (refused n before) = refusal n (size before)
answered (accepted xs) = acceptance (facts_of xs)

-- this paper's number and values of the code's answer
abbrev pub tells : Result Facts Refusal → TraceTold
tells (Err r) = refusal (number_of r.fault) r.offset
tells (Ok facts) = acceptance facts
