-- The loop's own invariant, and the promises of the private functions under it. Nothing here has to be believed: no contract of a public
-- function names it.
use Rattle.std.specs.Prelude.{ℕ, ◌+◌, ◌*◌, ◌≤◌, ◌<◌, ◌^◌, ◌≡◌, true, List, length, get_or, drop, eqb, Option, Some, None, Result, Ok, Err}
use Rattle.lists.specs.Choice.{choose}
use Rattle.wiring.specs.Wiring.{module_of}
use Rattle.wiring.specs.Inner.Path.{PathOf}
use Rattle.view.specs.Inner.View.{with_request}
use Rattle.store.specs.Inner.Layout.{size as machine_size}
use Rattle.store.specs.Inner.Memory.{view, Becomes}
use Rattle.trace.specs.Item.{Request, Item, Items, after}
use Rattle.trace.specs.Table.{is_row, body_row}
use Rattle.trace.specs.Records.{records}
use Rattle.trace.specs.Contents.{shape_of, words_given, requests_of, start_words}
use Rattle.trace.specs.Refusals.{fault}
use Rattle.trace.specs.Check.{Verdict, refused, ended, check_records, check}
use Rattle.trace.specs.Answers.{number_of}
use Rattle.trace.specs.Inner.Known.{Known, Room as RoomToKnow, MayNote as MayKnow, Noted}
use Rattle.trace.specs.declared.Fault.TheVariants.{Order}
use Rattle.trace.specs.declared.Fault.{Fault}
use Rattle.trace.specs.declared.Facts.{Facts}
use Rattle.trace.specs.declared.Refusal.{Refusal}
use Rattle.trace.specs.declared.progress.Progress.{Progress}
use Rattle.load.specs.Inner.Machine.{asked_by, RequestsHeld}

-- the memory and the machine m say what the items before say
pub record LoadedSoFar (before : Items) (words m : List ℕ) : Type 0 where
  pub words_are : words ≡ start_words (words_given before)
  pub sized : length m ≡ machine_size
  pub requests-are : RequestsHeld (shape_of before).k (requests_of before) (view m)

-- the marks and the words have their lengths, and the sums fit
pub record Room (p : Progress) (marks words : List ℕ) : Type 0 where
  pub known : RoomToKnow p marks
  pub words_size : length words ≡ 256

-- the request r is put into the machine at the tag t, with its path
pub record RequestPut (k : ℕ) (r : Request) (t : ℕ) (m m' : List ℕ) : Type 0 where
  pub path : ℕ
  pub path-is : PathOf k r.engine (module_of k r.address) path
  pub becomes : Becomes m' (with_request (view m) t r.address path (asked_by r))

-- what putting a record's item asks
pub record MayPut (kind : ℕ) (b : List ℕ) (p : Progress) (words m : List ℕ) : Type 0 where
  pub right : is_row (body_row kind (length b)) ≡ true
  pub few : kind ≡ 3 → p.facts.requests < 256
  pub k-low : p.facts.k ≤ 4
  pub engine-below : kind ≡ 3 → get_or b 0 0 < 2 ^ p.facts.k
  pub words_size : length words ≡ 256
  pub sized : length m ≡ machine_size

-- and what a step past it asks
pub record MayNote (kind : ℕ) (b : List ℕ) (p : Progress) (marks words m : List ℕ) : Type 0 where
  pub known : MayKnow kind b p marks
  pub put : MayPut kind b p words m

-- what the item x leaves in the memory and in the machine, where it is not refused
pub record Put (x : Item) (p : Progress) (words m words' m' : List ℕ) : Type 0 where
  pub words_size : length words' ≡ 256
  pub loaded : (before : Items) (marks : List ℕ) → Known before p marks → LoadedSoFar before words m → fault before x ≡ 0 →
      LoadedSoFar (after before x) words' m'

-- and what a step past it keeps
pub record Keeps (x : Item) (p : Progress) (marks words m : List ℕ) (p' : Progress) (marks' words' m' : List ℕ) : Type 0 where
  pub noted : Noted x p marks p' marks'
  pub put : Put x p words m words' m'

-- the answer where the trace ends
abbrev pub reading : Progress → Result Facts Refusal
reading p =
    choose (eqb p.section 0) (Err (record { fault = Order; offset = 0 }))
    (Ok p.facts)

-- the verdict is what the items before make of it
pub record Decided (s : List ℕ) (p : Progress) (marks words m : List ℕ) (outcome : Items → Verdict) : Type 0 where
  pub before : Items
  pub known : Known before p marks
  pub marks-sized : length marks ≡ 256
  pub loaded : LoadedSoFar before words m
  pub verdict : check s ≡ outcome before

-- the invariant: the rest of the trace decides
pub record Inside (s : List ℕ) (p : Progress) (marks words m : List ℕ) : Type 0 where
  pub short : length s ≤ 65536
  pub at-inside : p.at ≤ length s
  pub room : Room p marks words
  pub so_far : Decided s p marks words m (λ before. check_records before (records (drop p.at s)))

abbrev pub TurnRight : List ℕ → Progress → List ℕ → List ℕ → List ℕ → Result (Option Progress) Fault → Type 0
TurnRight s p marks words m (Ok None) = Decided s p marks words m ended
TurnRight s p marks words m (Err f) = Decided s p marks words m (refused (number_of f))
TurnRight s p marks words m (Ok (Some p')) = (p.at < p'.at) × Inside s p' marks words m

-- past n more requests
abbrev pub past_requests : Progress → ℕ → Progress
past_requests p n =
    record p {
      at = p.at + 23 * n;
      facts = record p.facts { requests = p.facts.requests + n; acts_at = p.facts.acts_at + 23 * n };
    }

-- behind a request stand n more that are not refused, and go into the machine m
pub record RequestsPassed (s : List ℕ) (p : Progress) (n : ℕ) (m m' : List ℕ) : Type 0 where
  pub inside : p.at + 23 * n ≤ length s
  pub sized : length m' ≡ machine_size
  pub run : p.section ≡ 3 → (marks words : List ℕ) → Inside s p marks words m → Inside s (past_requests p n) marks words m'

pub record RequestsOnward (s : List ℕ) (p : Progress) (m : List ℕ) (p' : Progress) (m' : List ℕ) : Type 0 where
  pub onward : p.at ≤ p'.at
  pub inside : (marks words : List ℕ) → Inside s p marks words m → Inside s p' marks words m'

pub record Onward (s : List ℕ) (p p' : Progress) : Type 0 where
  pub onward : p.at ≤ p'.at
  pub inside : (marks words m : List ℕ) → Inside s p marks words m → Inside s p' marks words m
