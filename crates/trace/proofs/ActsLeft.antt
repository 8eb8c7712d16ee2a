-- The acts of an accepted trace, one by one: where they begin, what stands at an offset, and the next offset.
use Prim.Native.Nat.{ℕ, zero, suc, ◌+◌, ◌-◌, ◌/◌, ◌%◌, ◌≤◌, ◌<◌}
use mathlib.Core.Path.{◌≡◌, refl, ap, sym, ◌∙◌, subst}
use mathlib.Core.Logic.{◌≢◌, ⊎_elim}
use mathlib.Core.List.{List, [], ◌∷◌, ◌++◌, append_assoc, append-nil}
use native.Mathlib.Omega.{arith}
use native.Mathlib.Nat.{add-zero, add_assoc}
use Rattle.std.specs.Prelude.{Some, None}
use lib.ListN.{length, get_or, take, drop, length-append, length-drop}
use lib.Seq.{drop-drop, drop_at, drop-length, drop-append-le, get_or-drop}
use lib.Dec.{eqb}
use borrow.Author.Tests.{lt-ltb, ne_eqb}
use Rattle.lists.specs.Choice.{choose}
use Rattle.lists.specs.Search.{All, nil, cons}
use Rattle.lists.proofs.Tests.{clash}
use Rattle.lists.proofs.Every.{all_more, all_head}
use Rattle.event.specs.Event.{Act}
use Rattle.trace.specs.Bytes.{AreBytes, number, fields_in, total}
use Rattle.trace.specs.Item.{Item, act, Items, none, after}
use Rattle.trace.specs.Table.{Row, event_row, drain_row, body_size, parts_of, row_of, section, record_size, size}
use Rattle.trace.specs.Write.{bytes, record_of, trace_of}
use Rattle.trace.specs.Inner.Fits.{FitsBytes, AllFitBytes, after-fit}
use Rattle.trace.specs.Contents.{contents, add, acts_of, last_section, acts_offset}
use Rattle.trace.specs.Refusals.{fault}
use Rattle.trace.specs.Check.{accepted, check}
use Rattle.trace.specs.Inner.Fits.{Valid, valid-after}
use Rattle.trace.specs.Inner.Acts.{act_size, ActFits, acts_size, act_offset, acts_written, Left, due_of, due}
use Rattle.trace.specs.declared.acts.Act.{Act as ReadAct}
use Rattle.trace.specs.declared.acts.Act.TheVariants.{Event as EventRead, Drain}
use Rattle.trace.proofs.Numbers.{number-one}
use Rattle.trace.proofs.Fields.{fields-drop, fields-written}
use Rattle.trace.proofs.Table.{act-section, act-or-earlier}
use Rattle.trace.proofs.Written.{length-record}
use Rattle.trace.proofs.Accept.{accepted-is, length-trace}
use Rattle.trace.proofs.Ranges.{in_order, follow-low}

acts-written-more : (front : List Act) (a : Act) → acts_written (front ++ (a ∷ [])) ≡ acts_written front ++ record_of (act a)
unfolding acts_written
acts-written-more [] a = append-nil (record_of (act a))
acts-written-more (b ∷ front) a = rw (acts-written-more front a) (sym (append_assoc (record_of (act b)) (acts_written front) (record_of (act a))))

-- before an item of the first three sections stand only such
low-before : (before : Items) (x : Item) → fault before x ≡ 0 → section x < 4 → last_section before < 4
low-before before x f low = follow-low (last_section before) (section x) (in_order before x f) low

-- up to the first act there is none
no-acts : (xs : Items) → Valid xs → last_section xs < 4 → (acts_offset xs ≡ size xs) × (acts_of xs ≡ [])
unfolding acts_offset size last_section contents
no-acts none v low = (refl, refl)
no-acts (after before x) (valid-after v f) low =
    let i = no-acts before v (low-before before x f low) in
    ⊎_elim (λ h. absurd (omega (arith, ap section h.1, act-section h.0)))
    (λ e. (rw (lt-ltb (section x) 4 low) (ap (λ (n : ℕ). n + record_size x) i.0), e.adds_none (contents before) ∙ i.1)) (act-or-earlier x)

-- from the first act on there is nothing else
record Split (xs : Items) : Type 0 where
  inside : acts_offset xs ≤ length (trace_of xs)
  acts-are : drop (acts_offset xs) (trace_of xs) ≡ acts_written (acts_of xs)

split-low : (xs : Items) → Valid xs → last_section xs < 4 → Split xs
unfolding acts_written
split-low xs v low =
    let h = no-acts xs v low in
    let at : acts_offset xs ≡ length (trace_of xs) = h.0 ∙ sym (length-trace xs) in
    record { inside = omega arith; acts-are = rw (at, drop-length (trace_of xs), h.1) }

split-act : (before : Items) (a : Act) → Split before → acts_offset (after before (act a)) ≡ acts_offset before →
    acts_of (after before (act a)) ≡ acts_of before ++ (a ∷ []) → Split (after before (act a))
unfolding trace_of
split-act before a i same more = record {
  inside = omega (arith, i.inside, length-append (trace_of before) (record_of (act a)));
  acts-are =
      rw (same, more, drop-append-le (acts_offset before) (trace_of before) (record_of (act a)) i.inside, i.acts-are, acts-written-more (acts_of before) a);
}

split-acts : (xs : Items) → Valid xs → Split xs
unfolding acts_offset last_section contents add trace_of acts_written
split-acts none v = record { inside = omega arith; acts-are = refl }
split-acts (after before x) (valid-after v f) =
    ⊎_elim
    (λ h. rw h.1 (split-act before h.0 (split-acts before v) (rw (act-section h.0)) refl))
    (λ e. split-low (after before x) (valid-after v f) e.low) (act-or-earlier x)

acts-fit : (xs : Items) → AllFitBytes xs → All ActFits (acts_of xs)
unfolding contents add
acts-fit none fit = nil
acts-fit (after before x) (after-fit fit f) =
    ⊎_elim (λ h. rw h.1 (all_more (acts-fit before fit) (subst FitsBytes h.1 f)))
    (λ e. rw (e.adds_none (contents before)) (acts-fit before fit)) (act-or-earlier x)

-- at its first act all acts of an accepted trace are left
pub left-start : (s : List ℕ) (xs : Items) → AreBytes s → check s ≡ accepted xs → Left s (acts_offset xs) (acts_of xs)
left-start s xs are e =
    let a = accepted-is s xs are e in
    let i = split-acts xs a.valid in
    record {
      inside = rw a.bytes-are i.inside;
      bytes-are = rw a.bytes-are i.acts-are;
      fit = acts-fit xs a.fit;
    }

-- past an act the others are left
pub left-next : {s : List ℕ} {at : ℕ} {a : Act} {rest : List Act} → Left s at (a ∷ rest) → Left s (at + act_size a) rest
unfolding acts_written
left-next {s} {at} {a} {rest} l =
    let x = act a in
    let long : length s - at ≡ record_size x + length (acts_written rest) =
    sym (length-drop at s) ∙ ap length l.bytes-are ∙ length-append (record_of x) (acts_written rest)
    ∙ ap (λ (n : ℕ). n + length (acts_written rest)) (length-record x) in
    record {
      inside = omega (arith, l.inside);
      bytes-are =
          sym (drop-drop (record_size x) at s) ∙ ap (drop (record_size x)) l.bytes-are
          ∙ drop_at (record_of x) (acts_written rest) (record_size x) (length-record x);
      fit = tail l.fit;
    }
  where
    tail : {b : Act} {bs : List Act} → All ActFits (b ∷ bs) → All ActFits bs
    tail (cons f fs) = fs

left-past : (n : ℕ) (s : List ℕ) (at : ℕ) (left : List Act) → Left s at left → Left s (at + acts_size (take n left)) (drop n left)
unfolding acts_size
left-past zero s at left l = rw add-zero l
left-past (suc n) s at [] l = rw add-zero l
left-past (suc n) s at (a ∷ rest) l = rw (← (add_assoc at (act_size a) (acts_size (take n rest)))) (left-past n s (at + act_size a) rest (left-next l))

-- where the first n acts of an accepted trace have been passed, the others are left
pub left_at : (s : List ℕ) (xs : Items) → AreBytes s → check s ≡ accepted xs → (n : ℕ) → Left s (act_offset xs n) (drop n (acts_of xs))
left_at s xs are e n = left-past n s (acts_offset xs) (acts_of xs) (left-start s xs are e)

-- ---- how an act is told by the low byte of its kind, and what was read is an act
abbrev row_by : ℕ → Row
row_by kind = choose (eqb kind 4) event_row drain_row

abbrev due_by : ℕ → List ℕ → ReadAct
due_by kind f = choose (eqb kind 4) (EventRead (get_or f 0 0) (get_or f 1 0) (get_or f 2 0)) (Drain (get_or f 0 0))

abbrev act_of : ReadAct → Act
act_of (EventRead what level position) = Act.event (record { what = what; level = level; position = position })
act_of (Drain rounds) = Act.drain rounds

record ActTold (a : Act) : Type 0 where
  row_is : row_by ((row_of (act a)).kind % 256) ≡ row_of (act a)
  due-is : due_by ((row_of (act a)).kind % 256) (parts_of (act a)).fields ≡ due_of a
  back : act_of (due_of a) ≡ a

act-told : (a : Act) → ActTold a
unfolding parts_of
act-told (Act.event e) = record { row_is = refl; due-is = refl; back = refl }
act-told (Act.drain rounds) = record { row_is = refl; due-is = refl; back = refl }

-- an act was read: it is the next, and past it the others are left
pub record Next (s : List ℕ) (left : List Act) (a : Act) (at : ℕ) : Type 0 where
  pub rest : List Act
  pub left_is : left ≡ a ∷ rest
  pub are-left : Left s at rest

next-act : {s : List ℕ} {at : ℕ} (left : List Act) (d : ReadAct) → Left s at left → due left ≡ Some d → Next s left (act_of d) (at + act_size (act_of d))
next-act [] d l e = clash (cc)
next-act (a ∷ rest) d l e =
    let same : due_of a ≡ d = cc in
    let is : act_of d ≡ a = ap act_of (sym same) ∙ (act-told a).back in rw is (record { rest = rest; left_is = refl; are-left = left-next l })

pub next-event : {s : List ℕ} {at : ℕ} (left : List Act) (what level position : ℕ) → Left s at left → due left ≡ Some (EventRead what level position) →
    Next s left (Act.event (record { what = what; level = level; position = position })) (at + 7)
unfolding record_size parts_of total
next-event left what level position l e = next-act left (EventRead what level position) l e

pub next-drain : {s : List ℕ} {at : ℕ} (left : List Act) (rounds : ℕ) → Left s at left → due left ≡ Some (Drain rounds) →
    Next s left (Act.drain rounds) (at + 6)
unfolding record_size parts_of total
next-drain left rounds l e = next-act left (Drain rounds) l e

pub next-end : {s : List ℕ} {at : ℕ} (left : List Act) → Left s at left → due left ≡ None → left ≡ []
next-end [] l e = refl
next-end (a ∷ rest) l h = clash (cc)

-- what the bytes at an offset say of the next act
module _ (s : List ℕ) (at : ℕ) where
  kind-here : {a : Act} {rest : List Act} → Left s at (a ∷ rest) → get_or s (at + 2) 0 ≡ (row_of (act a)).kind % 256
  unfolding acts_written record_of bytes
  kind-here l = sym (get_or-drop at s 2 0) ∙ ap (λ (b : List ℕ). get_or b 2 0) l.bytes-are

  fields-here : {a : Act} {rest : List Act} → Left s at (a ∷ rest) → fields_in (row_of (act a)).widths s (at + 4) ≡ (parts_of (act a)).fields
  unfolding acts_written record_of bytes
  fields-here {a} {rest} l =
      let r = row_of (act a) in
      let n = body_size r in
      let header : List ℕ = n % 256 ∷ n / 256 % 256 ∷ r.kind % 256 ∷ r.kind / 256 % 256 ∷ [] in
      sym (fields-drop r.widths s at 4) ∙ ap (λ (b : List ℕ). fields_in r.widths b 4) l.bytes-are
      ∙ fields-written (all_head l.fit) header (acts_written rest)

  -- its record stands whole, and it is read by its kind
  record Here (left : List Act) : Type 0 where
    inside : at + (4 + body_size (row_by (get_or s (at + 2) 0))) ≤ length s
    due-is : Some (due_by (get_or s (at + 2) 0) (fields_in (row_by (get_or s (at + 2) 0)).widths s (at + 4))) ≡ due left

  here : (left : List Act) → Left s at left → at ≢ length s → Here left
  unfolding acts_written record_size
  here [] l h = absurd (h (omega (arith, length-drop at s, ap length l.bytes-are, l.inside)))
  here (a ∷ rest) l h =
      let t = act-told a in
      record { inside = rw (kind-here l, t.row_is) (left-next l).inside; due-is = rw (kind-here l, t.row_is, fields-here l) (ap Some t.due-is) }

  pub read-end : (left : List Act) → Left s at left → at ≡ length s → None ≡ due left
  unfolding record_size
  read-end [] l h = refl
  read-end (a ∷ rest) l h = let z : ⊥ = omega (arith, (left-next l).inside) in elim z [ ]

  module _ (left : List Act) (l : Left s at left) (some : at ≢ length s) where
    pub act-room : at + 4 ≤ length s
    act-room = omega (arith, (here left l some).inside)

    pub event-room : get_or s (at + 2) 0 ≡ 4 → at + 7 ≤ length s
    unfolding total
    event-room k = rw k at (here left l some).inside

    pub drain-room : get_or s (at + 2) 0 ≢ 4 → at + 6 ≤ length s
    unfolding total
    drain-room k = rw (ne_eqb (get_or s (at + 2) 0) 4 k) at (here left l some).inside

    pub read-event : get_or s (at + 2) 0 ≡ 4 → Some (EventRead (get_or s (at + 4) 0) (get_or s (at + 5) 0) (get_or s (at + 6) 0)) ≡ due left
    unfolding fields_in
    read-event k =
        let five : at + 4 + 1 ≡ at + 5 = omega arith in
        let six : at + 4 + 1 + 1 ≡ at + 6 = omega arith in
        rw (← (number-one s (at + 4)), ← (number-one s (at + 5)), ← (number-one s (at + 6)), ← five, ← six) (rw k at (here left l some).due-is)

    pub read-drain : get_or s (at + 2) 0 ≢ 4 → Some (Drain (number 2 s (at + 4))) ≡ due left
    unfolding fields_in
    read-drain k = rw (ne_eqb (get_or s (at + 2) 0) 4 k) at (here left l some).due-is
