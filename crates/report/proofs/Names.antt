-- Laws of the addresses that a trace names.
use Prim.Native.Nat.{ℕ, zero, suc, ◌+◌, ◌≤◌, ◌<◌}
use mathlib.Core.Path.{◌≡◌, refl, sym, ◌∙◌, ap}
use mathlib.Core.Bool.{true}
use mathlib.Core.List.{List}
use Rattle.std.specs.Prelude.{Result}
use native.Mathlib.Numerals.{add-one}
use native.Mathlib.Omega.{arith}
use lib.ListN.{length, get_or, set, take, length-set}
use lib.Seq.{get_or-set_same, get_or-set_other, take-suc, take-length}
use lib.Dec.{eqb}
use Rattle.lists.specs.Choice.{choose}
use Rattle.lists.specs.Search.{some}
use Rattle.lists.specs.Table.{list_below}
use Rattle.lists.proofs.Tests.{eqb-cases, choose-swap}
use Rattle.lists.proofs.Searches.{some_more}
use Rattle.lists.proofs.Below.{below-is}
use Rattle.store.specs.Inner.Memory.{view}
use Rattle.trace.specs.Item.{Request}
use Rattle.trace.specs.Contents.{words_given, requests_of, no_request, request_at, given}
use Rattle.trace.specs.declared.Facts.{Facts}
use Rattle.trace.specs.declared.Refusal.{Refusal}
use Rattle.load.specs.Inner.Loaded.{Loaded}
use Rattle.run.specs.Inner.Run.{items_in}
use Rattle.report.specs.Report.{asks_for, named}
use Rattle.report.specs.Inner.Names.{asks_below, Marked}

-- ---- the addresses of the requests
module _ (rs : List Request) (address : ℕ → ℕ) (same : (t : ℕ) → t < length rs → address t ≡ (request_at rs t).address) (a : ℕ) where
  asks-first : (n : ℕ) → n ≤ length rs → asks_below address n a ≡ asks_for (take n rs) a
  unfolding asks_below some
  asks-first zero l = refl
  asks-first (suc n) l =
      let last = some_more (λ (r : Request). eqb r.address a) (take n rs) (request_at rs n) in
      rw (asks-first n (omega arith), take-suc rs n no_request (omega arith), last, same n (omega arith))

  asks-all : asks_below address (length rs) a ≡ asks_for rs a
  asks-all = asks-first (length rs) (omega arith) ∙ ap (λ (l : List Request). asks_for l a) (take-length rs)

-- ---- marks
pub marked-none : {address : ℕ → ℕ} {before : List ℕ} → length before ≡ 256 → Marked address 0 before before
unfolding asks_below
marked-none size = record { size = size; marks = λ a l. refl }

pub marked_more : {address : ℕ → ℕ} (n : ℕ) {before after : List ℕ} → address n < 256 → Marked address n before after →
    Marked address (n + 1) before (set after (address n) 1)
unfolding asks_below
marked_more {address} n {before} {after} low m = record {
  size = length-set after (address n) 1 ∙ m.size;
  marks = λ a l. rw add-one
      (eqb-cases (λ b. get_or (set after (address n) 1) a 0 ≡ choose (choose b true (asks_below address n a)) 1 (get_or before a 0)) (address n) a
      (λ e. rw (← e) (get_or-set_same after (address n) 1 0 (omega (arith, m.size))))
      (λ d. get_or-set_other after (address n) a 1 0 (λ e. d (sym e)) ∙ m.marks a l));
}

-- ---- a trace
pub trace-named : {trace : List ℕ} {r : Result Facts Refusal} {marks words m after : List ℕ} {n : ℕ} → Loaded trace r marks words m →
    n ≡ length (requests_of (items_in trace)) → Marked (view m).fixed.address n marks after → after ≡ list_below 256 (named (items_in trace))
unfolding named
trace-named {trace} {m = m} {after = after} {n = n} l size d =
    below-is 0 256 (named (items_in trace)) after d.size
    (λ a low. d.marks a low
    ∙ rw (l.marks-are a low, size, asks-all (requests_of (items_in trace)) (view m).fixed.address (λ t h. (l.requests-are.each t h).address_is) a)
    (choose-swap (asks_for (requests_of (items_in trace)) a) (given (words_given (items_in trace)) a) 1 0))
