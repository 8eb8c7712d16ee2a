-- The walk over the records of an accepted trace: its start, a record more, and its end.
use Prim.Native.Nat.{ℕ, zero, suc, ◌+◌, ◌*◌, ◌≤◌}
use mathlib.Core.Path.{◌≡◌, refl, sym, ◌∙◌, ap}
use mathlib.Core.Bool.{Bool, true, false}
use mathlib.Core.List.{List}
use native.Mathlib.Omega.{arith}
use lib.ListN.{length, drop}
use lib.Seq.{drop-drop}
use lib.Dec.{ltb}
use borrow.Author.Tests.{ltb-false, le-ltb}
use Rattle.lists.specs.Choice.{choose}
use Rattle.lists.proofs.Tests.{clash}
use Rattle.digits.specs.Inner.Buffer.{HasRoom, WritesWithin}
use Rattle.digits.specs.declared.LentBuffer.{LentBuffer}
use Rattle.digits.proofs.Buffer.{writes_nothing, within_then, within-more, room-within}
use Rattle.trace.specs.Item.{Items, none, after}
use Rattle.trace.specs.Table.{item}
use Rattle.trace.specs.Records.{nothing, faulty, whole, split, records}
use Rattle.trace.specs.Refusals.{fault}
use Rattle.trace.specs.Check.{Verdict, refused, accepted, items_of, ended, decide, check_records, check}
use Rattle.trace.proofs.Records.{Body, records-nothing, records-faulty, records-whole}
use Rattle.listing.specs.Listing.{item_line, item_lines, listed, listing, listing_room}
use Rattle.listing.specs.Inner.Walk.{IsAccepted, ListedTo}

-- what is accepted is not refused
not-refused : {G : Type 0} {v : Verdict} {n : ℕ} {before xs : Items} → v ≡ refused n before → v ≡ accepted xs → G
not-refused e f = clash (cc)

-- an accepted trace is short
choice-short : (s : List ℕ) (rest : Verdict) {xs : Items} (t : Bool) → ltb 65536 (length s) ≡ t →
    choose t (refused 10 none) rest ≡ accepted xs → length s ≤ 65536
choice-short s rest true e h = clash (cc)
choice-short s rest false e h = ltb-false 65536 (length s) e

pub is-accepted : (s : List ℕ) {xs : Items} → check s ≡ accepted xs → IsAccepted s
unfolding check
is-accepted s {xs} e = record { short = choice-short s _ (ltb 65536 (length s)) refl e; verdict = rw e }

-- the start: no line, and the whole trace decides
pub walk-starts : (s : List ℕ) (out : LentBuffer) → IsAccepted s → ListedTo s out 0 out
unfolding check item_lines
walk-starts s out a = record {
  items = none;
  inside = omega arith;
  verdict = simp (le-ltb 65536 (length s) a.short);
  wrote = record { writes = writes_nothing out; short = omega arith };
}

-- where the verdict accepts, the record that stands first is not refused, and the rest decides
decide-on : (n : ℕ) (before : Items) (rest : Verdict) {xs : Items} → decide n before rest ≡ accepted xs → decide n before rest ≡ rest
unfolding decide
decide-on zero before rest e = refl
decide-on (suc n) before rest e = clash (cc)

whole-decides : (before : Items) (s : List ℕ) (kind : ℕ) (b : List ℕ) {xs : Items} → split s ≡ whole kind b → check_records before (records s) ≡ accepted xs →
    check_records before (records s) ≡ check_records (after before (item kind b)) (records (drop (4 + length b) s))
unfolding check_records
whole-decides before s kind b e h =
    let here : check_records before (records s) ≡
    decide (fault before (item kind b)) before (check_records (after before (item kind b)) (records (drop (4 + length b) s))) = rw (records-whole s kind b e) in
    here ∙ decide-on (fault before (item kind b)) before _ (sym here ∙ h)

-- the items of what is accepted at the end
ended-items : (before : Items) {xs : Items} → ended before ≡ accepted xs → before ≡ xs
unfolding ended
ended-items none e = clash (cc)
ended-items (after before x) e = cc

module _ {s : List ℕ} (a : IsAccepted s) {out mid : LentBuffer} {at : ℕ} (w : ListedTo s out at mid) where
  -- what follows the items before is accepted
  rest-accepted : check_records w.items (records (drop at s)) ≡ accepted (items_of (check s))
  rest-accepted = sym w.verdict ∙ a.verdict

  -- a record has room for its line
  pub walk-room : {kind : ℕ} {b : List ℕ} → Body s at kind b → HasRoom out listing_room → HasRoom mid (4 * (4 + length b))
  walk-room body room = room-within w.wrote _ (omega (arith, body.inside, a.short, room))

  pub walk-goes : {kind : ℕ} {b : List ℕ} {after : LentBuffer} → Body s at kind b →
      WritesWithin (4 * (4 + length b)) mid (item_line (item kind b)) after → ListedTo s out (at + 4 + length b) after
  unfolding item_lines
  walk-goes {kind} {b} {after = after'} body written =
      let end_is : at + (4 + length b) ≡ at + 4 + length b = omega arith in
      let behind : drop (4 + length b) (drop at s) ≡ drop (at + 4 + length b) s = drop-drop (4 + length b) at s ∙ ap (λ (n : ℕ). drop n s) end_is in
      record {
        items = after w.items (item kind b);
        inside = omega (arith, body.inside);
        verdict =
            w.verdict ∙ whole-decides w.items (drop at s) kind b body.stands rest-accepted
            ∙ ap (λ (l : List ℕ). check_records (after w.items (item kind b)) (records l)) behind;
        wrote = within-more (omega arith) (within_then w.wrote written);
      }

  -- an accepted trace has no record that is faulty in itself
  pub walk-whole : {G : Type 0} {n : ℕ} → split (drop at s) ≡ faulty n → G
  unfolding check_records
  walk-whole {n = n} e = not-refused (ap (check_records w.items) (records-faulty (drop at s) n e)) rest-accepted

  -- the end: all lines are written
  pub walk_ends : split (drop at s) ≡ nothing → WritesWithin listing_room out (listing s) mid
  unfolding check_records listing listed
  walk_ends e =
      let all : w.items ≡ items_of (check s) =
      ended-items w.items (ap (check_records w.items) (sym (records-nothing (drop at s) e)) ∙ rest-accepted) in
      let text : item_lines w.items ≡ listing s = ap item_lines all ∙ sym (ap listed a.verdict) in
      within-more {a = 4 * at} (omega (arith, w.inside, a.short)) (rw (← text) w.wrote)
