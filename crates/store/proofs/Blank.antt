-- An array of zeros holds nothing: a machine starts from it.
use Prim.Native.Nat.{ℕ, ◌+◌, ◌/◌, ◌%◌, ◌<◌}
use mathlib.Core.Path.{◌≡◌, ap, ◌∙◌}
use mathlib.Core.Bool.{false}
use mathlib.Core.List.{List, []}
use native.Mathlib.Decide.{dec_lt}
use native.Mathlib.Omega.{arith}
use lib.Dec.{eqb}
use lib.ListN.{get_or, replicate, length-replicate, get_or-replicate, get_or-eq_default}
use Rattle.lists.specs.Table.{list_below}
use Rattle.lists.proofs.Tests.{by_cases}
use Rattle.words.specs.Inner.Digits.{bit_in}
use Rattle.words.proofs.Digits.{digit-none}
use Rattle.view.specs.Inner.View.{blank}
use Rattle.store.specs.Inner.Layout.{size, at_k, at_q, at_w, at_count, at_every, at_answered, at_ordered, at_accesses, at_merges, at_rounds}
use Rattle.store.specs.Inner.Layout.{at_request_lengths, at_reply_lengths, at_wait_lengths}
use Rattle.store.specs.Inner.Layout.{at_order, at_requests, at_replies, at_firsts, at_seconds, at_heads, at_first_operands, at_second_operands}
use Rattle.store.specs.Inner.Memory.{column_at, marks_at, requests_at, buffers_at, code_of, address_of, path_of, after_of, fixed_in, carried_in}
use Rattle.store.specs.Inner.Memory.{order_in, bytes_at, view, Becomes}
use Rattle.store.proofs.Grid.{grid-empty}
use Rattle.store.proofs.Columns.{tags-none}
use Rattle.store.proofs.Held.{Reading, held_at, requests-held, Told, tags-told, requests-told}

module _ (m : List ℕ) (none : (k : ℕ) → get_or m k 0 ≡ 0) where
  column-none : (from : ℕ) → column_at from m ≡ (λ t. 0)
  column-none from = tags-none 0 (λ t. get_or m (from + t) 0) (λ t. none (from + t))

  marks-none : (from : ℕ) → marks_at from m ≡ (λ t. false)
  marks-none from = tags-none false (λ t. eqb (bit_in (get_or m (from + t / 64) 0) (t % 64)) 1) (λ t. rw (none (from + t / 64), digit-none))

  held_none : {read : Reading} → Told read → (lengths from : ℕ) → held_at read lengths from m ≡ (λ s p. [])
  held_none t lengths from = grid-empty _ (λ s p. rw (none (lengths + s), digit-none) (t.none s _))

  requests-empty : requests_at m ≡ (λ s p. [])
  requests-empty = requests-held m ∙ held_none requests-told at_request_lengths at_requests

  buffers-none : (lengths firsts seconds : ℕ) → buffers_at lengths firsts seconds m ≡ (λ s p. [])
  unfolding list_below
  buffers-none lengths firsts seconds = grid-empty _ (λ s p. rw (none (lengths + s), digit-none))

  holds-nothing : view m ≡ blank
  unfolding view fixed_in carried_in order_in list_below
  holds-nothing =
      let heads = column-none at_heads in
      λ i. record {
        fixed = record {
          k = none at_k i;
          q = none at_q i;
          w = none at_w i;
          count = none at_count i;
          every = marks-none at_every i;
          address = λ t. address_of (heads i t);
          path = λ t. path_of (heads i t);
          after = λ t. after_of (heads i t);
        };
        carried = λ t. record { code = code_of (heads i t); first = column-none at_first_operands i t; second = column-none at_second_operands i t };
        answered = marks-none at_answered i;
        requests = requests-empty i;
        replies = held_none tags-told at_reply_lengths at_replies i;
        waits = buffers-none at_wait_lengths at_firsts at_seconds i;
        order = ap (λ (n : ℕ). list_below n (bytes_at at_order m)) (none at_ordered) i;
        accesses = none at_accesses i;
        merges = none at_merges i;
        rounds = none at_rounds i;
      }

zero-at : (k : ℕ) → ◌≡◌ {A = ℕ} (get_or (replicate size 0) k 0) 0
zero-at k =
    by_cases (dec_lt k size) (λ (h : k < size). get_or-replicate size k 0 0 h)
    (λ (h : ¬ (k < size)). get_or-eq_default (replicate size 0) 0 {n = k} (omega (arith, length-replicate {A = ℕ} size 0)))

pub zeros-blank : Becomes (replicate size 0) blank
zeros-blank = record { sized = length-replicate {A = ℕ} size 0; holds = holds-nothing (replicate size 0) zero-at }
