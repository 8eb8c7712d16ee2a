-- What one turn of the loop, its start and its ways out say of the verdict.
use Prim.Native.Nat.{ℕ, zero, suc, ◌+◌, ◌≤◌, ◌<◌, ◌^◌}
use mathlib.Core.Path.{◌≡◌, refl, ap, sym, ◌∙◌}
use mathlib.Core.Logic.{◌≢◌}
use mathlib.Core.List.{List}
use native.Mathlib.Omega.{arith}
use lib.ListN.{length, get_or, drop, replicate, length-replicate, get_or-replicate}
use lib.Seq.{drop-drop}
use Rattle.std.specs.Prelude.{Some, None, Result, Ok, Err}
use borrow.Author.Tests.{ne_eqb, lt-ltb, le-ltb}
use Rattle.lists.specs.Choice.{choose}
use Rattle.lists.specs.Search.{some}
use Rattle.store.specs.Inner.Layout.{size as machine_size}
use Rattle.store.proofs.Blank.{zeros-blank}
use Rattle.trace.specs.Item.{request, Items, none, after}
use Rattle.trace.specs.Table.{item, section, size}
use Rattle.trace.specs.Records.{nothing, faulty, whole, split, records}
use Rattle.trace.specs.Contents.{contents, words_given, given, start_words, put_words, last_section, acts_offset}
use Rattle.trace.specs.Refusals.{fault}
use Rattle.trace.specs.Check.{Verdict, refused, accepted, items_of, ended, decide, check_records, check}
use Rattle.trace.specs.Answers.{number_of}
use Rattle.trace.specs.Inner.Told.{refusal, answered, tells}
use Rattle.trace.specs.Inner.Known.{request_in, Known, Bodied, RecordFault, begun}
use Rattle.trace.specs.declared.Fault.{Fault}
use Rattle.trace.specs.declared.Fault.TheVariants.{Long}
use Rattle.trace.specs.declared.Facts.{Facts}
use Rattle.trace.specs.declared.Refusal.{Refusal}
use Rattle.trace.specs.declared.progress.Progress.{Progress}
use Rattle.trace.proofs.Table.{size-item, says-request}
use Rattle.trace.proofs.Records.{records-nothing, records-faulty, records-whole}
use Rattle.trace.proofs.Answers.{number-range}
use Rattle.trace.proofs.Known.{facts-known}
use Rattle.trace.proofs.Ranges.{section-some, requests-few, engine-below}
use Rattle.load.specs.Inner.Loaded.{Loaded}
use Rattle.load.specs.Inner.Loop.{LoadedSoFar, Keeps, reading, Decided, Inside, TurnRight}
use Rattle.load.proofs.Machine.{none-held}

-- the verdict where a whole record stands
check-whole : (before : Items) (s : List ℕ) (kind : ℕ) (b : List ℕ) → split s ≡ whole kind b →
    check_records before (records s) ≡ decide (fault before (item kind b)) before (check_records (after before (item kind b)) (records (drop (4 + length b) s)))
unfolding check_records
check-whole before s kind b e = rw (records-whole s kind b e)

decide-some : (n : ℕ) (before : Items) (rest : Verdict) → n ≢ 0 → decide n before rest ≡ refused n before
unfolding decide
decide-some zero before rest h = absurd (h refl)
decide-some (suc n) before rest h = refl

-- another outcome of the same items
decided-as : {s : List ℕ} {p : Progress} {marks words m : List ℕ} {outcome other : Items → Verdict} (r : Decided s p marks words m outcome) →
    outcome r.before ≡ other r.before → Decided s p marks words m other
decided-as r e = record { before = r.before; known = r.known; marks-sized = r.marks-sized; loaded = r.loaded; verdict = r.verdict ∙ e }

module _ {s : List ℕ} {p : Progress} {marks words m : List ℕ} (i : Inside s p marks words m) where
  pub turn-stop : split (drop p.at s) ≡ nothing → TurnRight s p marks words m (Ok None)
  unfolding check_records
  turn-stop e = decided-as i.so_far (rw (records-nothing (drop p.at s) e))

  pub turn-bad : (f : Fault) → split (drop p.at s) ≡ faulty (number_of f) → TurnRight s p marks words m (Err f)
  unfolding check_records
  turn-bad f e = decided-as i.so_far (rw (records-faulty (drop p.at s) (number_of f) e))

  module _ {kind : ℕ} {b : List ℕ} (e : split (drop p.at s) ≡ whole kind b) where
    pub turn-fault : (f : Fault) → RecordFault p marks (item kind b) (Err f) → TurnRight s p marks words m (Err f)
    turn-fault f found =
        let r = i.so_far in
        let some-fault : number_of f ≢ 0 = λ e. omega (arith, e, (number-range f).0) in
        decided-as r (check-whole r.before (drop p.at s) kind b e
        ∙ rw (← (found.is r.before r.known)) (decide-some (number_of f) r.before _ some-fault))

    -- a request that is not refused has an engine, and room
    pub clean-request : Bodied kind b → RecordFault p marks (item kind b) (Ok tt) → kind ≡ 3 →
        (p.facts.requests < 256) × (get_or b 0 0 < 2 ^ p.facts.k)
    clean-request bodied found k =
        let r = i.so_far in
        let said = says-request b k bodied.right in
        let clean : fault r.before (request (request_in b)) ≡ 0 = rw said.is at (sym (found.is r.before r.known)) in
        (omega (arith, requests-few r.before (request_in b) clean, r.known.requests-is), rw r.known.k-is (engine-below r.before (request_in b) clean))

    pub turn-go : p.at + 4 + length b ≤ length s → Bodied kind b → RecordFault p marks (item kind b) (Ok tt) →
        (p' : Progress) (marks' words' m' : List ℕ) → Keeps (item kind b) p marks words m p' marks' words' m' →
        TurnRight s p marks' words' m' (Ok (Some p'))
    unfolding decide
    turn-go inside bodied found p' marks' words' m' keeps =
        let r = i.so_far in
        let clean : fault r.before (item kind b) ≡ 0 = sym (found.is r.before r.known) in
        let at-is : p'.at ≡ p.at + (4 + length b) = omega (arith, keeps.noted.at-is, size-item kind b bodied.right) in (
          omega arith,
          record {
            short = i.short;
            at-inside = omega (arith, inside);
            room = record { known = keeps.noted.room; words_size = keeps.put.words_size };
            so_far = record {
              before = after r.before (item kind b);
              known = keeps.noted.known r.before r.known clean;
              marks-sized = keeps.noted.room.marks-size;
              loaded = keeps.put.loaded r.before _ r.known r.loaded clean;
              verdict =
                  r.verdict ∙ check-whole r.before (drop p.at s) kind b e
                  ∙ rw (clean, at-is) (ap (λ (l : List ℕ). check_records (after r.before (item kind b)) (records l)) (drop-drop (4 + length b) p.at s));
            };
          },
        )

-- the start: nothing is known, and the whole trace decides
none-loaded : LoadedSoFar none (replicate 256 0) (replicate machine_size 0)
unfolding contents start_words put_words
none-loaded = record { words_are = refl; sized = zeros-blank.sized; requests-are = none-held 0 zeros-blank.holds }

pub inside-start : (s : List ℕ) → length s ≤ 65536 → Inside s begun (replicate 256 0) (replicate 256 0) (replicate machine_size 0)
unfolding check size last_section contents some acts_offset
inside-start s short = record {
  short = short;
  at-inside = omega arith;
  room = record {
    known = record { acts-at-low = omega arith; requests-low = omega arith; marks-size = length-replicate {A = ℕ} 256 0 };
    words_size = length-replicate {A = ℕ} 256 0;
  };
  so_far = record {
    before = none;
    known = record {
      at-is = refl;
      section-is = refl;
      k-is = refl;
      k-low = omega arith;
      q-is = refl;
      w-is = refl;
      requests-is = refl;
      acts-at-is = refl;
      marks-are = λ a low. get_or-replicate 256 a 0 0 low;
    };
    marks-sized = length-replicate {A = ℕ} 256 0;
    loaded = none-loaded;
    verdict = simp (le-ltb 65536 (length s) short);
  };
}

-- the ways out
loaded-as : {s : List ℕ} {r : Result Facts Refusal} {marks words m : List ℕ} (v : Verdict) → check s ≡ v → tells r ≡ answered v
    → length marks ≡ 256 → ((a : ℕ) → a < 256 → get_or marks a 0 ≡ choose (given (words_given (items_of v)) a) 1 0)
    → LoadedSoFar (items_of v) words m → Loaded s r marks words m
loaded-as v e answer sized marks loaded = record {
  answer = rw e answer;
  marks-sized = sized;
  marks-are = λ a low. rw e (marks a low);
  words_are = rw e loaded.words_are;
  sized = loaded.sized;
  requests-are = rw e loaded.requests-are;
}

pub loaded-long : (s : List ℕ) → 65536 < length s → Loaded s (Err (record { fault = Long; offset = 0 })) (replicate 256 0) (replicate 256 0) (replicate machine_size 0)
unfolding check size contents some
loaded-long s long =
    loaded-as (refused 10 none) (simp (lt-ltb 65536 (length s) long)) refl (length-replicate {A = ℕ} 256 0) (λ a low. get_or-replicate 256 a 0 0 low) none-loaded

-- what the places end as is what the caller has
pub loaded-lent : {s : List ℕ} {r : Result Facts Refusal} {marks words m marks' words' m' : List ℕ} → Loaded s r marks words m →
    marks' ≡ marks → words' ≡ words → m' ≡ m → Loaded s r marks' words' m'
loaded-lent l marks-are words_are m-is = rw (marks-are, words_are, m-is) l

module _ {s : List ℕ} {p : Progress} {marks words m : List ℕ} where
  pub loaded-fail : (f : Fault) → TurnRight s p marks words m (Err f) → Loaded s (Err (record { fault = f; offset = p.at })) marks words m
  loaded-fail f r =
      loaded-as (refused (number_of f) r.before) r.verdict (ap (refusal (number_of f)) r.known.at-is) r.marks-sized r.known.marks-are r.loaded

  pub loaded-stop : TurnRight s p marks words m (Ok None) → Loaded s (reading p) marks words m
  unfolding ended last_section size
  loaded-stop r = go r.before r.known r.loaded r.verdict
    where
      go : (before : Items) → Known before p marks → LoadedSoFar before words m → check s ≡ ended before → Loaded s (reading p) marks words m
      go none known loaded e = loaded-as (refused 4 none) e (rw known.section-is) r.marks-sized known.marks-are loaded
      go (after before x) known loaded e =
          loaded-as (accepted (after before x)) e
          (simp (known.section-is, ne_eqb (section x) 0 (section-some x), facts-known known))
          r.marks-sized known.marks-are loaded
