-- What the check knows of the records before an offset, and the promises of the private functions over it. Nothing here has to be
-- believed: no contract of a public function names it.
use Rattle.std.specs.Prelude.{ℕ, ◌+◌, ◌≤◌, ◌<◌, ◌≡◌, Bool, true, List, length, get_or, drop, ltb, Result, Ok, Err}
use Rattle.lists.specs.Choice.{choose}
use Rattle.event.specs.Event.{Event}
use Rattle.trace.specs.Bytes.{number}
use Rattle.trace.specs.Item.{Shape, Word, Request, Item, Items, after}
use Rattle.trace.specs.Table.{body_size, is_row, body_row, row_of, section, record_size, size}
use Rattle.trace.specs.Records.{records}
use Rattle.trace.specs.Contents.{contents, shape_of, words_given, requests_of, given, last_section, acts_offset}
use Rattle.trace.specs.Refusals.{own_fault, fault}
use Rattle.trace.specs.Check.{check_records}
use Rattle.trace.specs.Answers.{number_of}
use Rattle.trace.specs.declared.Fault.{Fault}
use Rattle.trace.specs.declared.progress.Progress.{Progress}

-- the table's column "body" by its bytes, as the code reads them
abbrev pub shape_in : List ℕ → Shape
shape_in b = record { k = get_or b 0 0; q = get_or b 1 0; w = get_or b 2 0 }

abbrev pub word_in : List ℕ → Word
word_in b = record { address = get_or b 0 0; value = number 8 b 1 }

abbrev pub request_in : List ℕ → Request
request_in b = record { engine = get_or b 0 0; operation = get_or b 1 0; address = get_or b 2 0; first = number 8 b 3; second = number 8 b 11 }

abbrev pub event_in : List ℕ → Event
event_in b = record { what = get_or b 0 0; level = get_or b 1 0; position = get_or b 2 0 }

-- a body of a kind and length that the table has
pub record Bodied (kind : ℕ) (b : List ℕ) : Type 0 where
  pub right : is_row (body_row kind (length b)) ≡ true

-- the number of what is found, 0 where nothing is
abbrev pub finding_number : Result (Unit {0}) Fault → ℕ
finding_number (Ok _) = 0
finding_number (Err f) = number_of f

-- the progress and the marks say what the items before say
pub record Known (before : Items) (p : Progress) (marks : List ℕ) : Type 0 where
  pub at-is : p.at ≡ size before
  pub section-is : p.section ≡ last_section before
  pub k-is : p.facts.k ≡ (shape_of before).k
  pub k-low : p.facts.k ≤ 4
  pub q-is : p.facts.q ≡ (shape_of before).q
  pub w-is : p.facts.w ≡ (shape_of before).w
  pub requests-is : p.facts.requests ≡ length (requests_of before)
  pub acts-at-is : p.facts.acts_at ≡ acts_offset before
  pub marks-are : (a : ℕ) → a < 256 → get_or marks a 0 ≡ choose (given (words_given before) a) 1 0

-- what is found is what the definition finds, whatever items are known to stand before
pub record OwnFault (p : Progress) (marks : List ℕ) (x : Item) (r : Result (Unit {0}) Fault) : Type 0 where
  pub is : (before : Items) → Known before p marks → finding_number r ≡ own_fault (contents before) x

pub record RecordFault (p : Progress) (marks : List ℕ) (x : Item) (r : Result (Unit {0}) Fault) : Type 0 where
  pub is : (before : Items) → Known before p marks → finding_number r ≡ fault before x

abbrev pub begun : Progress
begun = record { at = 0; section = 0; facts = record { k = 0; q = 0; w = 0; requests = 0; acts_at = 0 } }

-- past a record of a section, whose body has a size; what stands before the first act grows with the first three sections
abbrev pub moved : Progress → ℕ → ℕ → Progress
moved p section size =
    record {
      at = p.at + 4 + size;
      section = section;
      facts = record p.facts { acts_at = choose (ltb section 4) (p.facts.acts_at + 4 + size) p.facts.acts_at };
    }

-- past the record of an item
abbrev pub moved_past : Progress → Item → Progress
moved_past p x = moved p (section x) (body_size (row_of x))

-- with a shape
abbrev pub shaped : Progress → Shape → Progress
shaped p s = record p { facts = record p.facts { k = s.k; q = s.q; w = s.w } }

-- with one request more
abbrev pub asked : Progress → Progress
asked p = record p { facts = record p.facts { requests = p.facts.requests + 1 } }

-- ---- past a record that is not refused
-- the sums fit, and a mark stands for each address
pub record Room (p : Progress) (marks : List ℕ) : Type 0 where
  pub acts-at-low : p.facts.acts_at ≤ p.at
  pub requests-low : p.facts.requests ≤ 256
  pub marks-size : length marks ≡ 256

-- what the step asks
pub record MayNote (kind : ℕ) (b : List ℕ) (p : Progress) (marks : List ℕ) : Type 0 where
  pub bodied : Bodied kind b
  pub at_low : p.at ≤ 65536
  pub few : kind ≡ 3 → p.facts.requests < 256
  pub room : Room p marks

-- and what is known behind the item x
pub record Noted (x : Item) (p : Progress) (marks : List ℕ) (p' : Progress) (marks' : List ℕ) : Type 0 where
  pub at-is : p'.at ≡ p.at + record_size x
  pub room : Room p' marks'
  pub known : (before : Items) → Known before p marks → fault before x ≡ 0 → Known (after before x) p' marks'

-- the same but for the acts
pub record Same (xs ys : Items) : Type 0 where
  pub shape_is : shape_of xs ≡ shape_of ys
  pub words_are : words_given xs ≡ words_given ys
  pub requests-are : requests_of xs ≡ requests_of ys
  pub acts-at-is : acts_offset xs ≡ acts_offset ys

-- from offset `at` to offset `end` stand acts that are not refused
pub record Run (s : List ℕ) (before : Items) (at end : ℕ) : Type 0 where
  pub all : Items
  pub same : Same before all
  pub last-is : last_section all ≡ 4
  pub size_is : size all + at ≡ size before + end
  pub verdict : check_records before (records (drop at s)) ≡ check_records all (records (drop end s))

pub record Passed (s : List ℕ) (k at end : ℕ) : Type 0 where
  pub onward : at ≤ end
  pub inside : end ≤ length s
  pub run : (before : Items) → last_section before ≡ 4 → (shape_of before).k ≡ k → Run s before at end

-- and whatever the shape, where they are drains
pub record DrainsPassed (s : List ℕ) (at end : ℕ) : Type 0 where
  pub passed : (k : ℕ) → Passed s k at end

-- the headers of four drains stand at offset i and on
pub record FourDrains (s : List ℕ) (i : ℕ) (r : Bool) : Type 0 where
  pub headers : r ≡ true → (number 4 s i ≡ 327682) × (number 4 s (i + 6) ≡ 327682) × (number 4 s (i + 12) ≡ 327682) × (number 4 s (i + 18) ≡ 327682)
