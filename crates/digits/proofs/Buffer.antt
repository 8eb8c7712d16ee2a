-- Laws of `Wrote` and `Writes`: writing one text behind another is writing both; and of `Printed`.
use Prim.Native.Nat.{ℕ, suc, ◌+◌, ◌-◌, ◌≤◌}
use mathlib.Core.Path.{◌≡◌, refl, sym, ◌∙◌, ap, subst}
use mathlib.Core.List.{List, [], ◌∷◌, ◌++◌, append_assoc}
use native.Mathlib.Nat.{add-zero, add-suc, suc-add, zero-add}
use native.Mathlib.Omega.{arith}
use lib.ListN.{length, take, set, length-append}
use lib.Seq.{sets, length-sets, sets-eq, take-append_seam, drop-drop}
use borrow.Rule.Slice.PartMut.{put_mid}
use Rattle.digits.specs.Inner.Buffer.{HasRoom, Wrote, Writes, WritesWithin, Printed}
use Rattle.digits.specs.declared.LentBuffer.{LentBuffer}

sets-append : (before : List ℕ) (at : ℕ) (first second : List ℕ) → sets before at (first ++ second) ≡ sets (sets before at first) (at + length first) second
sets-append before at [] second = ap (λ (k : ℕ). sets before k second) (sym (add-zero at))
sets-append before at (x ∷ first) second =
    sets-append (set before at x) (suc at) first second
    ∙ ap (λ (k : ℕ). sets (sets (set before at x) (suc at) first) k second) (suc-add at (length first) ∙ sym (add-suc at (length first)))

-- what is copied over a part of the buffer is written there
pub part-set : (before : List ℕ) (at : ℕ) (text : List ℕ) → at + length text ≤ length before →
    put_mid at (at + length text - at) before text ≡ sets before at text
part-set before at text h =
    let long : at + length text - at ≡ length text = omega arith in
    rw (long, drop-drop, sets-eq text before at h, append_assoc)

pub wrote_nothing : (before : List ℕ) (at : ℕ) → Wrote before at [] before at
wrote_nothing before at = record { bytes = refl; behind = sym (add-zero at) }

module _ {before : List ℕ} {at : ℕ} {first middle : List ℕ} {next : ℕ} (w : Wrote before at first middle next) where
  pub wrote_then : {second after : List ℕ} {last : ℕ} → Wrote middle next second after last → Wrote before at (first ++ second) after last
  wrote_then {second} {after} {last} v = record {
    bytes = v.bytes ∙ rw (w.bytes, w.behind, sets-append);
    behind = simp length-append (omega arith);
  }

  pub room-then : (second : List ℕ) → at + length (first ++ second) ≤ length before → next + length second ≤ length middle
  room-then second h = rw (w.bytes, length-sets) (omega (arith, simp length-append at h))

pub wrote-printed : {text before after : List ℕ} {r : ℕ} → Wrote before 0 text after r → r ≤ length before → Printed text before after r
wrote-printed {text} {before} w h = record {
  bytes = w.bytes ∙ sets-eq text before 0 (omega arith) ∙ rw zero-add;
  size = w.behind ∙ zero-add (length text);
}

-- ---- in a lent buffer
pub writes_nothing : (out : LentBuffer) → Writes out [] out
writes_nothing out = record { lent = refl; wrote = wrote_nothing out.bytes.now out.at }

module _ {out : LentBuffer} {first : List ℕ} {middle : LentBuffer} (w : Writes out first middle) where
  pub writes_then : {second : List ℕ} {after : LentBuffer} → Writes middle second after → Writes out (first ++ second) after
  writes_then v = record { lent = v.lent ∙ w.lent; wrote = wrote_then w.wrote v.wrote }

  pub room_behind : (second : List ℕ) → HasRoom out (length (first ++ second)) → HasRoom middle (length second)
  room_behind = room-then w.wrote

  pub size-kept : length middle.bytes.now ≡ length out.bytes.now
  size-kept = rw w.wrote.bytes (length-sets out.bytes.now out.at first)

pub writes-within : {out : LentBuffer} {text : List ℕ} {after : LentBuffer} (room : ℕ) → length text ≤ room → Writes out text after → WritesWithin room out text after
writes-within room h w = record { writes = w; short = omega (arith, w.wrote.behind) }

pub within-more : {a b : ℕ} {out : LentBuffer} {text : List ℕ} {after : LentBuffer} → a ≤ b → WritesWithin a out text after → WritesWithin b out text after
within-more l w = record { writes = w.writes; short = omega (arith, w.short) }

module _ {a : ℕ} {out : LentBuffer} {first : List ℕ} {middle : LentBuffer} (w : WritesWithin a out first middle) where
  pub within_then : {b : ℕ} {second : List ℕ} {after : LentBuffer} → WritesWithin b middle second after → WritesWithin (a + b) out (first ++ second) after
  within_then v = record { writes = writes_then w.writes v.writes; short = omega (arith, w.short, v.short) }

  pub room-within : (b : ℕ) → HasRoom out (a + b) → HasRoom middle b
  room-within b h = omega (arith, size-kept w.writes, w.short)

-- a buffer that is lent anew has all its room
pub new-room : {lent : List ℕ} (new : LentBuffer) → new.bytes.now ≡ lent → new.at ≡ 0 → (n : ℕ) → n ≤ length lent → HasRoom new n
new-room new same start n h = omega (arith, start, ap (λ (l : List ℕ). length l) same)

-- and what is written into it stands at its start, and is printed
module _ {room : ℕ} {lent : List ℕ} {new : LentBuffer} {text : List ℕ} {after : LentBuffer} {last : List ℕ} (same : new.bytes.now ≡ lent) (start : new.at ≡ 0) where
  pub new-wrote : WritesWithin room new text after → last ≡ after.bytes.now → Wrote lent 0 text last after.at × (after.at ≤ room)
  new-wrote w end_is =
      (rw (end_is, ← same) (subst (λ (at : ℕ). Wrote new.bytes.now at text after.bytes.now after.at) start w.writes.wrote), omega (arith, w.short, start))

  pub new-printed : room ≤ length lent → WritesWithin room new text after → last ≡ after.bytes.now → Printed text lent last after.at
  new-printed fits w end_is = let wrote = new-wrote w end_is in wrote-printed wrote.0 (omega (arith, wrote.1))

-- what a caller prints: as many bytes as the result says, which are there, are the text
pub printed-within : {text before after : List ℕ} {r : ℕ} → Printed text before after r → r ≤ length after
printed-within w = rw (w.bytes, length-append) (omega arith)

pub printed-text : {text before after : List ℕ} {r : ℕ} → Printed text before after r → take r after ≡ text
printed-text {text} w = rw (w.bytes, w.size) (take-append_seam text _)
