-- From a loaded trace to the start, and from the end of its acts to the end of its run.
use Prim.Native.Nat.{ℕ, ◌≤◌}
use mathlib.Core.Path.{◌≡◌, sym, ◌∙◌, ap, subst}
use mathlib.Core.List.{List}
use native.Mathlib.Omega.{arith}
use lib.ListN.{length, get_or}
use Rattle.lists.specs.Search.{All}
use Rattle.operation.specs.declared.Words.{Words}
use Rattle.view.specs.Inner.View.{View, operation_in}
use Rattle.store.specs.Inner.Memory.{view}
use Rattle.trace.specs.Bytes.{AreBytes}
use Rattle.trace.specs.Item.{Items}
use Rattle.trace.specs.Contents.{shape_of, words_given, requests_of, acts_of}
use Rattle.trace.specs.Inner.Ranges.{ActIn, InRange}
use Rattle.trace.specs.Inner.Acts.{Left}
use Rattle.trace.specs.declared.Facts.{Facts}
use Rattle.trace.proofs.Contents.{start-length}
use Rattle.trace.proofs.Accept.{accepted-is}
use Rattle.trace.proofs.Ranges.{accepted-in-range}
use Rattle.trace.proofs.ActsLeft.{left-start}
use Rattle.machine.specs.Run.{run_acts}
use Rattle.machine.specs.Order.{at_start}
use Rattle.machine.specs.Inner.Sound.{Sound}
use Rattle.load.specs.Inner.Machine.{tags_alone, RequestsHeld}
use Rattle.shown.specs.Inner.Network.{Network, setup}
use Rattle.shown.specs.Inner.Shown.{shown}
use Rattle.shown.specs.Inner.Reached.{Stands, shown_run, AtStart}
use Rattle.shown.proofs.Start.{start-shows}
use Rattle.shown.proofs.Reaching.{start-stands, stands-sound}
use Rattle.start.specs.Inner.Linked.{Empty, HasRequests, RequestsLoaded, Started}
use Rattle.moves.specs.Inner.Moves.{words_in}
use Rattle.run.specs.Results.{words_at_start, ran_of}
use Rattle.run.specs.Inner.Run.{items_in, network_of, Loading, ActsReady, ActsRun, RanTo}
use Rattle.run.proofs.Network.{network-ranges}

-- ---- the machine with the requests alone
held-empty : (v : View) → v ≡ tags_alone v → Empty v
held-empty v e = record {
  unanswered = λ t. ap (λ (u : View). u.answered t) e;
  no-requests = λ s p. ap (λ (u : View). u.requests s p) e;
  no-replies = λ s p. ap (λ (u : View). u.replies s p) e;
  no-waits = λ s p. ap (λ (u : View). u.waits s p) e;
  no-order = ap (λ (u : View). u.order) e;
  no-accesses = ap (λ (u : View). u.accesses) e;
  no-merges = ap (λ (u : View). u.merges) e;
  no-rounds = ap (λ (u : View). u.rounds) e;
}

held-requests : (items : Items) → InRange items → (v : View) → RequestsHeld (shape_of items).k (requests_of items) v → HasRequests (network_of items) v
held-requests items within v h = record {
  ranges = network-ranges items within;
  address_is = λ t l. (h.each t l).address_is;
  path-is = λ t l s le. (h.each t l).path-is.positions s le;
  asked = λ t l. ap (λ (w : Words). operation_in w) (h.each t l).carried-is;
}

-- ---- the run before its first event
start-run : (x : Network) (v : View) (words : ℕ → ℕ) → AtStart x v → v.rounds ≡ 0 → shown_run x v words ≡ at_start (setup x) words
start-run x v words a z = λ i. record { state = start-shows x v a words i; rounds = z i }

-- the order list has a place for each request at most
order-within : (x : Network) (v : View) (words : ℕ → ℕ) → Sound (setup x) (shown x v words) → length v.order ≤ x.R
unfolding shown
order-within x v words s = s.room

module _ {trace : List ℕ} {facts : Facts} {m words : List ℕ} (are : AreBytes trace) (l : Loading trace facts m words) where
  in-range : InRange (items_in trace)
  in-range = accepted-in-range trace (items_in trace) are l.verdict

  has-requests : HasRequests (network_of (items_in trace)) (view m)
  has-requests = held-requests (items_in trace) in-range (view m) l.requests-are

  k-is : facts.k ≡ (shape_of (items_in trace)).k
  k-is = ap (λ (f : Facts). f.k) l.facts-are

  q-is : facts.q ≡ (shape_of (items_in trace)).q
  q-is = ap (λ (f : Facts). f.q) l.facts-are

  w-is : facts.w ≡ (shape_of (items_in trace)).w
  w-is = ap (λ (f : Facts). f.w) l.facts-are

  requests-is : facts.requests ≡ length (requests_of (items_in trace))
  requests-is = ap (λ (f : Facts). f.requests) l.facts-are

  pub loading-loaded : RequestsLoaded m facts.k facts.q facts.w facts.requests
  loading-loaded = record {
    sized = l.sized;
    empty = held-empty (view m) l.requests-are.elsewhere;
    network = network_of (items_in trace);
    requests = has-requests;
    k-is = k-is;
    q-is = q-is;
    w-is = w-is;
    count-is = requests-is;
  }

  acts-left : Left trace facts.acts_at (acts_of (items_in trace))
  acts-left = rw (ap (λ (f : Facts). f.acts_at) l.facts-are) (left-start trace (items_in trace) are l.verdict)

  module _ {m₁ : List ℕ} (s : Started m facts.k facts.q facts.w facts.requests m₁) where
    begins : AtStart (network_of (items_in trace)) (view m₁)
    begins = s.at-start (network_of (items_in trace)) has-requests k-is q-is w-is requests-is

    stands : Stands (network_of (items_in trace)) (view m₁) (words_in words)
    stands = start-stands begins (words_in words)

    pub loading-ready : ActsReady trace facts.acts_at m₁ words
    loading-ready = record {
      ready = record {
        sized = s.sized;
        words-sized = ap length l.words_are ∙ start-length (words_given (items_in trace));
        network = network_of (items_in trace);
        stands = stands;
      };
      few = omega (arith, s.no-rounds);
      short = (accepted-is trace (items_in trace) are l.verdict).short;
      acts = acts_of (items_in trace);
      are-left = acts-left;
      are-in = subst (λ (k : ℕ). All (ActIn k) (acts_of (items_in trace))) (sym begins.fits.k-is) in-range.acts-in;
    }

    -- it stands for the run's start, with the trace's starting words
    first_run : shown_run (network_of (items_in trace)) (view m₁) (words_in words) ≡ at_start (setup (network_of (items_in trace))) (words_at_start (items_in trace))
    first_run =
        start-run (network_of (items_in trace)) (view m₁) (words_in words) begins s.no-rounds
        ∙ ap (λ (ws : List ℕ). at_start (setup (network_of (items_in trace))) (λ a. get_or ws a 0)) l.words_are

    pub loading-ran : {m₂ words₂ : List ℕ} → ActsRun trace facts.acts_at m₁ words m₂ words₂ → RanTo (items_in trace) m₂ words₂
    unfolding ran_of
    loading-ran r = record {
      sized = r.sized;
      words-sized = r.words-sized;
      shows =
          r.shows (network_of (items_in trace)) (acts_of (items_in trace)) stands acts-left in-range.acts-in
          ∙ ap (run_acts (setup (network_of (items_in trace))) (acts_of (items_in trace))) first_run;
      count-is = (r.stands (network_of (items_in trace)) stands).fits.count-is;
      order-few = order-within (network_of (items_in trace)) _ _ (stands-sound (r.stands (network_of (items_in trace)) stands));
      requests-few = in-range.requests-few;
    }
