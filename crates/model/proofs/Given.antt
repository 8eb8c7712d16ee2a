-- What is copied out of the machine and the words is what the defined run gives.
use Prim.Native.Nat.{ℕ, ◌≤◌}
use mathlib.Core.Path.{◌≡◌, sym, ◌∙◌, ap, subst}
use mathlib.Core.Bool.{true}
use mathlib.Core.List.{List}
use native.Mathlib.Omega.{arith}
use lib.ListN.{length}
use lib.Dec.{leb}
use borrow.Author.Tests.{leb-true}
use Rattle.lists.proofs.Tests.{both_true}
use Rattle.store.specs.Inner.Memory.{view}
use Rattle.trace.specs.Item.{Items}
use Rattle.trace.specs.Contents.{requests_of}
use Rattle.results.specs.Inner.Copied.{values_in, marks_in}
use Rattle.lists.specs.Over.{over}
use Rattle.run.specs.Results.{Results, results_of}
use Rattle.run.specs.Inner.Run.{RanTo}
use Rattle.run.proofs.Results.{results_in, results-are}
use Rattle.model.specs.Result.{Lent, lent, room_for, memory_after}
use Rattle.model.specs.Promise.{counted}
use Rattle.model.specs.Inner.Give.{counts_in, MayGive, Gives, Leaves}
use Rattle.model.specs.declared.Counts.{Counts}

module _ {items : Items} {m memory : List ℕ} (r : RanTo items m memory) where
  pub may-give : (before : Lent) → room_for (length (requests_of items)) before ≡ true → MayGive m before
  may-give before room = record {
    requests-few = omega (arith, r.count-is, r.requests-few);
    order-few = omega (arith, r.count-is, r.order-few);
    room = subst (λ (n : ℕ). room_for n before ≡ true) (sym r.count-is) room;
  }

  pub gives-leaves : (before : Lent) {c : Counts} {after : Lent} → Gives m memory before c after → Leaves (results_of items) before c after
  unfolding memory_after
  gives-leaves before {c} {after} g =
      let replies-are = g.replies-are ∙ ap (λ (n : ℕ). over (values_in (view m) n) before.replies) r.count-is in
      let marks-are = g.marks-are ∙ ap (λ (n : ℕ). over (marks_in (view m) n) before.marks) r.count-is in
      let left : Leaves (results_in (length (requests_of items)) (view m) memory) before c after =
      record {
        counts-are = ap (λ (c : Counts). counted c.ordered c.accesses c.merges c.rounds) g.counts-are;
        memory-is = λ i. lent (replies-are i) (marks-are i) (g.order_is i) (g.words_are i);
      } in
      subst (λ (o : Results). Leaves o before c after) (results-are r) left

-- ---- what is copied
room-parts : (n : ℕ) (m : Lent) → room_for n m ≡ true →
    (n ≤ length m.replies) × (n ≤ length m.marks) × (n ≤ length m.order) × (256 ≤ length m.words)
unfolding room_for
room-parts n m h =
    let a = both_true (leb n (length m.replies)) _ h in
    let b = both_true (leb n (length m.marks)) _ a.1 in
    let d = both_true (leb n (length m.order)) _ b.1 in
    let words = leb-true 256 (length m.words) d.1 in
    (leb-true n (length m.replies) a.0, leb-true n (length m.marks) b.0, leb-true n (length m.order) d.0, words)

-- each of the four fits: the first two in the number of requests that the machine tells
module _ {m : List ℕ} {before : Lent} (g : MayGive m before) where
  room : ((view m).fixed.count ≤ length before.replies) × ((view m).fixed.count ≤ length before.marks) × ((view m).fixed.count ≤ length before.order)
      × (256 ≤ length before.words)
  room = room-parts (view m).fixed.count before g.room

  pub values-fit : {n : ℕ} → n ≡ (view m).fixed.count → (n ≤ 256) × (n ≤ length before.replies)
  values-fit e = (omega (arith, e, g.requests-few), omega (arith, e, room.0))

  pub marks-fit : {n : ℕ} → n ≡ (view m).fixed.count → (n ≤ 256) × (n ≤ length before.marks)
  marks-fit e = (omega (arith, e, g.requests-few), omega (arith, e, room.1))

  pub order-fits : (length (view m).order ≤ 256) × (length (view m).order ≤ length before.order)
  order-fits = (omega (arith, g.order-few, g.requests-few), omega (arith, g.order-few, room.2))

  pub words-fit : 256 ≤ length before.words
  words-fit = room.3

-- all four
pub copied : {m memory : List ℕ} {before : Lent} {n : ℕ} {c : Counts} {replies marks order words : List ℕ} → n ≡ (view m).fixed.count → c ≡ counts_in (view m) →
    replies ≡ over (values_in (view m) n) before.replies → marks ≡ over (marks_in (view m) n) before.marks → order ≡ over (view m).order before.order →
    words ≡ over memory before.words → Gives m memory before c (lent replies marks order words)
copied {m} {before = before} e counts r k o w = record {
  counts-are = counts;
  replies-are = r ∙ ap (λ (n : ℕ). over (values_in (view m) n) before.replies) e;
  marks-are = k ∙ ap (λ (n : ℕ). over (marks_in (view m) n) before.marks) e;
  order_is = o;
  words_are = w;
}
