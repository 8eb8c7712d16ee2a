-- A run of acts that are not refused: past it the rest of the trace decides, as before.
use Prim.Native.Nat.{ℕ, ◌+◌, ◌*◌, ◌%◌, ◌≤◌, ◌<◌}
use mathlib.Core.Path.{◌≡◌, refl, ap, sym, ◌∙◌}
use mathlib.Core.List.{List}
use mathlib.Core.Bool.{Bool, true}
use native.Mathlib.Omega.{arith}
use native.Mathlib.Nat.{add-zero}
use lib.ListN.{length, get_or, take, drop, length-drop}
use lib.Seq.{drop-drop, get_or-take, get_or-drop}
use Rattle.event.specs.Event.{Event, Act, event, drain, names_step}
use Rattle.trace.specs.Bytes.{AreBytes, number, total}
use Rattle.trace.specs.Item.{Shape, act, Items, after}
use Rattle.trace.specs.Table.{rows, is_row, first_row, body_row, item, parts_of, record_size, size}
use Rattle.trace.specs.Records.{next, records}
use Rattle.trace.specs.Contents.{shape_of, last_section}
use Rattle.trace.specs.Refusals.{fault, or_else, may_follow, own_fault}
use Rattle.trace.specs.Check.{decide, check_records}
use Rattle.trace.specs.Inner.Acts.{act_size}
use Rattle.trace.specs.Inner.Known.{event_in, Same, Passed, DrainsPassed, FourDrains}
use Rattle.trace.specs.Inner.Masked.{Mask, Steps, TellsEvent}
use Rattle.trace.proofs.Numbers.{number-drop, number-join, number-below}
use Rattle.trace.proofs.Table.{row_told, row-sizes, act-section, says-event, says-drain}
use Rattle.trace.proofs.Records.{Whole, is_whole, body-size, records-whole}
use Rattle.trace.proofs.Events.{header_of, event-stands}
use Rattle.trace.proofs.Known.{act-same}

-- acts, one by one
pub passed_start : (s : List ℕ) (k at : ℕ) → at ≤ length s → Passed s k at at
passed_start s k at h = record {
  onward = omega arith;
  inside = h;
  run = λ before section-is k-is. record {
    all = before;
    same = record { shape_is = refl; words_are = refl; requests-are = refl; acts-at-is = refl };
    last-is = section-is;
    size_is = refl;
    verdict = refl;
  };
}

same_then : {xs ys zs : Items} → Same xs ys → Same ys zs → Same xs zs
same_then a b = record {
  shape_is = a.shape_is ∙ b.shape_is;
  words_are = a.words_are ∙ b.words_are;
  requests-are = a.requests-are ∙ b.requests-are;
  acts-at-is = a.acts-at-is ∙ b.acts-at-is;
}

-- past an act that is not refused
passed-act : {s : List ℕ} {k at end : ℕ} → Passed s k at end → (a : Act) → end + act_size a ≤ length s →
    records (drop end s) ≡ next (act a) (records (drop (end + act_size a) s)) →
    ((before : Items) → last_section before ≡ 4 → (shape_of before).k ≡ k → fault before (act a) ≡ 0) → Passed s k at (end + act_size a)
unfolding size check_records decide last_section
passed-act {s} {k} {at} {end} p a inside stands sound = record {
  onward = omega (arith, p.onward);
  inside = inside;
  run = λ before section-is k-is.
      let r = p.run before section-is k-is in
      let None-found = sound r.all r.last-is (sym (ap (λ (s : Shape). s.k) r.same.shape_is) ∙ k-is) in
      record {
        all = after r.all (act a);
        same = same_then r.same (act-same r.all a);
        last-is = act-section a;
        size_is = omega (arith, r.size_is);
        verdict = r.verdict ∙ rw (stands, None-found);
      };
}

-- a record, by the one number that its header spells
pub header-whole : {s : List ℕ} → AreBytes s → (i kind len : ℕ) → is_row (body_row kind len) ≡ true → number 4 s i ≡ len + 65536 * kind →
    i + 4 + len ≤ length s → Whole (drop i s) kind (take len (drop (i + 4) s))
header-whole {s} are i kind len is e inside =
    let halves = number-join 2 2 s i in
    let first = number-below are 2 i in
    let told = row_told kind len is in
    let low = (row-sizes _ told.right).size_low in
    let long : length (take len (drop (i + 4) s)) ≡ len = body-size s i len refl inside in
    record {
      kind-is = number-drop 2 s i 2 ∙ omega (arith, told.size_is);
      size_is = number-drop 2 s i 0 ∙ rw (add-zero, long) (omega (arith, told.size_is));
      right = rw long is;
      fits = rw long (simp length-drop (omega arith));
      body_is = rw (long, drop-drop);
    }

record-stands : {s : List ℕ} → AreBytes s → (i kind len : ℕ) → is_row (body_row kind len) ≡ true → number 4 s i ≡ len + 65536 * kind → i + 4 + len ≤ length s →
    records (drop i s) ≡ next (item kind (take len (drop (i + 4) s))) (records (drop (i + (4 + len)) s))
record-stands {s} are i kind len is e inside =
    records-whole (drop i s) kind _ (is_whole (header-whole are i kind len is e inside)) ∙ rw (body-size s i len refl inside, drop-drop)

-- a byte of a part of the trace
body-byte : (s : List ℕ) (i n j at : ℕ) → j < n → i + j ≡ at → get_or (take n (drop i s)) j 0 ≡ get_or s at 0
body-byte s i n j at low e = get_or-take n (drop i s) j 0 low ∙ get_or-drop i s j 0 ∙ ap (λ (m : ℕ). get_or s m 0) e

-- a drain is never refused, and an event that names a step is not, where acts may stand
drain-clean : (before : Items) (rounds : ℕ) → last_section before ≡ 4 → fault before (act (drain rounds)) ≡ 0
unfolding fault may_follow or_else parts_of own_fault
drain-clean before rounds h = rw h

event-clean : (before : Items) (e : Event) → last_section before ≡ 4 → names_step (shape_of before).k e ≡ true → fault before (act (event e)) ≡ 0
unfolding fault may_follow or_else parts_of own_fault
event-clean before e h names = rw (h, names)

module _ {s : List ℕ} {k at end : ℕ} (are : AreBytes s) (p : Passed s k at end) where
  passed-drain : end + 6 ≤ length s → number 4 s end ≡ 327682 → Passed s k at (end + 6)
  unfolding rows first_row body_row total parts_of record_size
  passed-drain inside header =
      let body = take 2 (drop (end + 4) s) in
      passed-act p (drain (number 2 body 0)) inside
      (record-stands are end 5 2 refl header (omega arith) ∙ rw (says-drain body refl (rw (body-size s end 2 refl (omega arith)) refl)).is)
      (λ before section-is k-is. drain-clean before _ section-is)

  passed-event : end + 7 ≤ length s → number 4 s end ≡ 262147 →
      names_step k (record { what = get_or s (end + 4) 0; level = get_or s (end + 5) 0; position = get_or s (end + 6) 0 }) ≡ true → Passed s k at (end + 7)
  unfolding rows first_row body_row total parts_of record_size
  passed-event inside header names =
      let body = take 3 (drop (end + 4) s) in
      let what : get_or body 0 0 ≡ get_or s (end + 4) 0 = body-byte s (end + 4) 3 0 (end + 4) (omega arith) (omega arith) in
      let level : get_or body 1 0 ≡ get_or s (end + 5) 0 = body-byte s (end + 4) 3 1 (end + 5) (omega arith) (omega arith) in
      let position : get_or body 2 0 ≡ get_or s (end + 6) 0 = body-byte s (end + 4) 3 2 (end + 6) (omega arith) (omega arith) in
      passed-act p (event (event_in body)) inside
      (record-stands are end 4 3 refl header (omega arith) ∙ rw (says-event body refl (rw (body-size s end 3 refl (omega arith)) refl)).is)
      (λ before section-is k-is. event-clean before (event_in body) section-is (rw (k-is, what, level, position) names))

  -- the same of eight bytes that are read at once
  pub passed-told : end + 8 ≤ length s → {w fixed named : ℕ} {r : Bool} → w ≡ number 8 s end → k ≤ 4 → Mask k fixed → Steps k named →
      TellsEvent w fixed named r → r ≡ true → Passed s k at (end + 7)
  passed-told inside e low mask steps told so =
      let stands = event-stands are end k (rw (← e) (sym (told.tells k low mask steps) ∙ so)) in
      passed-event (omega arith) stands.0 stands.1

  pub passed-header : end + 8 ≤ length s → {w : ℕ} → w ≡ number 8 s end → w % 4294967296 ≡ 327682 → Passed s k at (end + 6)
  passed-header inside e header = passed-drain (omega arith) (sym (header_of are end) ∙ ap (λ (n : ℕ). n % 4294967296) (sym e) ∙ header)

-- ---- drains, eight at a stride
passed-four : {s : List ℕ} {at i : ℕ} → AreBytes s → DrainsPassed s at i → i + 24 ≤ length s → {b : Bool} → FourDrains s i b → b ≡ true →
    DrainsPassed s at (i + 24)
passed-four {s} {at} {i} are p inside f e =
    let h = f.headers e in
    let e2 : i + 6 + 6 ≡ i + 12 = omega arith in
    let e3 : i + 12 + 6 ≡ i + 18 = omega arith in
    let e4 : i + 18 + 6 ≡ i + 24 = omega arith in
    record {
      passed = λ k.
          let p1 = passed-drain are (p.passed k) (omega arith) h.0 in
          let p2 : Passed s k at (i + 12) = rw e2 at (passed-drain are p1 (omega arith) h.1) in
          let p3 : Passed s k at (i + 18) = rw e3 at (passed-drain are p2 (omega arith) h.2) in
          rw e4 at (passed-drain are p3 (omega arith) h.3);
    }

pub passed-eight : {s : List ℕ} {at i : ℕ} → AreBytes s → DrainsPassed s at i → i + 48 ≤ length s → {b c : Bool} → FourDrains s i b → b ≡ true →
    FourDrains s (i + 24) c → c ≡ true →
    DrainsPassed s at (i + 48)
passed-eight {s} {at} {i} are p inside f b g c =
    let e : i + 24 + 24 ≡ i + 48 = omega arith in
    rw e at (passed-four are (passed-four are p (omega arith) f b) (omega arith) g c)

-- one run of acts behind another
pub passed_then : {s : List ℕ} {k at mid end : ℕ} → Passed s k at mid → Passed s k mid end → Passed s k at end
passed_then p q = record {
  onward = omega (arith, p.onward, q.onward);
  inside = q.inside;
  run = λ before section-is k-is.
      let r = p.run before section-is k-is in
      let t = q.run r.all r.last-is (sym (ap (λ (s : Shape). s.k) r.same.shape_is) ∙ k-is) in
      record {
        all = t.all;
        same = same_then r.same t.same;
        last-is = t.last-is;
        size_is = omega (arith, r.size_is, t.size_is);
        verdict = r.verdict ∙ t.verdict;
      };
}
