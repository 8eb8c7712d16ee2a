-- A run of requests that are not refused: they go into the machine, and past them the rest of the trace decides, as before.
use Prim.Native.Nat.{ℕ, ◌+◌, ◌*◌, ◌≤◌}
use mathlib.Core.Path.{◌≡◌, refl, sym, ◌∙◌, subst}
use mathlib.Core.Bool.{false}
use mathlib.Core.List.{List}
use native.Mathlib.Omega.{arith}
use Rattle.std.specs.Prelude.{Result, Ok, Err, is_err}
use lib.ListN.{length, take, drop}
use Rattle.lists.proofs.Tests.{test-clash}
use Rattle.store.specs.Inner.Layout.{size as machine_size}
use Rattle.trace.specs.Bytes.{AreBytes, number, total}
use Rattle.trace.specs.Item.{Request, request}
use Rattle.trace.specs.Table.{rows, first_row, body_row, parts_of}
use Rattle.trace.specs.Contents.{last_section}
use Rattle.trace.specs.Refusals.{fault, or_else, may_follow, own_fault}
use Rattle.trace.specs.Inner.Known.{request_in, finding_number, RecordFault, moved, asked}
use Rattle.trace.specs.declared.Fault.{Fault}
use Rattle.trace.specs.declared.progress.Progress.{Progress}
use Rattle.trace.proofs.Table.{says-request}
use Rattle.trace.proofs.Records.{is_whole, body_at}
use Rattle.trace.proofs.Ranges.{request_fault, request-right}
use Rattle.trace.proofs.Runs.{header-whole}
use Rattle.load.specs.Inner.Loop.{RequestPut, Inside, past_requests, RequestsPassed, RequestsOnward}
use Rattle.trace.proofs.Known.{notes-request}
use Rattle.load.proofs.Keeps.{put-request}
use Rattle.load.proofs.Verdicts.{turn-go}

-- what is found where nothing is wrong
pub clean-found : (r : Result (Unit {0}) Fault) → is_err r ≡ false → finding_number r ≡ 0
clean-found (Ok x) e = refl
clean-found (Err f) e = test-clash refl e

-- behind a request another may follow, so its own faults decide
request-found : {p : Progress} {marks : List ℕ} {r : Request} → p.section ≡ 3 → request_fault p.facts.k p.facts.requests r ≡ 0 → RecordFault p marks (request r) (Ok tt)
unfolding fault may_follow or_else parts_of own_fault
request-found section-is clean = record {
  is = λ before known.
      let last : last_section before ≡ 3 = sym known.section-is ∙ section-is in
      rw (last, ← known.requests-is, ← known.k-is) (sym clean);
}

none-past : (p : Progress) → p ≡ past_requests p 0
none-past p =
    let at-is : p.at ≡ p.at + 23 * 0 = omega arith in
    let requests-is : p.facts.requests ≡ p.facts.requests + 0 = omega arith in
    let front : p.facts.acts_at ≡ p.facts.acts_at + 23 * 0 = omega arith in
    λ i. record p { at = at-is i; facts = record p.facts { requests = requests-is i; acts_at = front i } }

one-past : (p : Progress) (n : ℕ) → p.section ≡ 3 → asked (moved (past_requests p n) 3 19) ≡ past_requests p (n + 1)
one-past p n section-is =
    let at-is : p.at + 23 * n + 4 + 19 ≡ p.at + 23 * (n + 1) = omega arith in
    let requests-is : p.facts.requests + n + 1 ≡ p.facts.requests + (n + 1) = omega arith in
    let front : p.facts.acts_at + 23 * n + 4 + 19 ≡ p.facts.acts_at + 23 * (n + 1) = omega arith in
    let last = sym section-is in
    λ i. record { at = at-is i; section = last i; facts = record p.facts { requests = requests-is i; acts_at = front i } }

pub requests-start : (s : List ℕ) (p : Progress) (m : List ℕ) → p.at ≤ length s → length m ≡ machine_size → RequestsPassed s p 0 m m
requests-start s p m inside sized = record {
  inside = omega arith;
  sized = sized;
  run = λ section-is marks words i. subst (λ (q : Progress). Inside s q marks words m) (none-past p) i;
}

pub requests-one-more : {s : List ℕ} {p : Progress} {n : ℕ} {m m' m'' b : List ℕ} → AreBytes s → RequestsPassed s p n m m' → p.at + 23 * n + 23 ≤ length s →
    number 4 s (p.at + 23 * n) ≡ 196627 → b ≡ take 19 (drop (p.at + 23 * n + 4) s) → request_fault p.facts.k (p.facts.requests + n) (request_in b) ≡ 0 →
    RequestPut p.facts.k (request_in b) (p.facts.requests + n) m' m'' → RequestsPassed s p (n + 1) m m''
unfolding rows first_row body_row total parts_of
requests-one-more {s} {p} {n} {m} {m'} {m''} {b} are passed room header is clean put =
    let whole_is = is_whole (header-whole are (p.at + 23 * n) 3 19 refl header (omega arith)) in
    let h =
    body_at {s = s} {at = p.at + 23 * n} {kind = 3} 19 whole_is (omega arith) refl is in
    let said = says-request b refl h.bodied.right in
    record {
      inside = omega arith;
      sized = put.becomes.sized;
      run = λ section-is marks words i.
          let j = passed.run section-is marks words i in
          subst (λ (q : Progress). Inside s q marks words m'') (one-past p n section-is)
          (turn-go j h.stands h.inside h.bodied (rw said.is (request-found section-is clean)) (asked (moved (past_requests p n) 3 19)) marks words m''
          (rw said.is (record {
            noted = notes-request j.room.known (request_in b) (request-right p.facts.k (p.facts.requests + n) (request_in b) clean).0;
            put = put-request j.room.words_size (request_in b) m'' put;
          }))).1;
    }

pub requests-onward : {s : List ℕ} {p : Progress} {n : ℕ} {m m' : List ℕ} → RequestsPassed s p n m m' → p.section ≡ 3 →
    RequestsOnward s p m (past_requests p n) m'
requests-onward passed section-is = record { onward = omega arith; inside = passed.run section-is }

pub no-requests : (s : List ℕ) (p : Progress) (m : List ℕ) → RequestsOnward s p m p m
no-requests s p m = record { onward = omega arith; inside = λ marks words i. i }
