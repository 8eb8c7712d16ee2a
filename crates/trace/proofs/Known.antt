-- What the check knows behind a record that is not refused: of an act, what it knew.
use Prim.Native.Nat.{ℕ, ◌<◌}
use mathlib.Core.Path.{◌≡◌, refl, ap, sym, ◌∙◌}
use mathlib.Core.Logic.{◌≢◌}
use mathlib.Core.List.{List, [], ◌∷◌, ◌++◌}
use native.Mathlib.Decide.{ℕ_discrete}
use native.Mathlib.Omega.{arith}
use lib.ListN.{length, get_or, set, length-append, length-set}
use lib.Seq.{get_or-set_same, get_or-set_other}
use lib.Dec.{eqb}
use borrow.Author.Tests.{eq-eqb, ne_eqb}
use Rattle.lists.specs.Choice.{choose}
use Rattle.lists.proofs.Tests.{by_cases}
use Rattle.lists.proofs.Searches.{some_more}
use Rattle.event.specs.Event.{Act}
use Rattle.trace.specs.Bytes.{total}
use Rattle.trace.specs.Item.{Shape, Word, Request, shape, word, request, act, Items, after}
use Rattle.trace.specs.Table.{parts_of, record_size, size}
use Rattle.trace.specs.Contents.{contents, add, words_given, requests_of, given, last_section, acts_offset}
use Rattle.trace.specs.Inner.Known.{Known, Room, Noted, moved_past, shaped, asked, Same}
use Rattle.trace.specs.Inner.Told.{facts_of}
use Rattle.trace.specs.declared.progress.Progress.{Progress}
use Rattle.trace.proofs.Table.{word-section, request-section, act-section}
use Rattle.trace.proofs.Ranges.{shape-in-range}

-- items with an act behind them say what they said, but for the acts
pub act-same : (before : Items) (a : Act) → Same before (after before (act a))
unfolding contents add acts_offset
act-same before a = record { shape_is = refl; words_are = refl; requests-are = refl; acts-at-is = rw (act-section a) }

-- so what was known is known, wherever the acts end
pub known_same : {xs ys : Items} {p p' : Progress} {marks : List ℕ} → Same xs ys → Known xs p marks → p'.at ≡ size ys → p'.section ≡ last_section ys →
    p'.facts ≡ p.facts → Known ys p' marks
known_same same known at-is section-is facts = record {
  at-is = at-is;
  section-is = section-is;
  k-is = rw facts known.k-is ∙ ap (λ (s : Shape). s.k) same.shape_is;
  k-low = rw facts known.k-low;
  q-is = rw facts known.q-is ∙ ap (λ (s : Shape). s.q) same.shape_is;
  w-is = rw facts known.w-is ∙ ap (λ (s : Shape). s.w) same.shape_is;
  requests-is = rw facts known.requests-is ∙ ap length same.requests-are;
  acts-at-is = rw facts known.acts-at-is ∙ same.acts-at-is;
  marks-are = λ a low. known.marks-are a low ∙ ap (λ (ws : List Word). choose (given ws a) 1 0) same.words_are;
}

-- what is known at the end is what the trace says of itself
pub facts-known : {before : Items} {p : Progress} {marks : List ℕ} → Known before p marks → p.facts ≡ facts_of before
facts-known known = λ i. record {
  k = known.k-is i;
  q = known.q-is i;
  w = known.w-is i;
  requests = known.requests-is i;
  acts_at = known.acts-at-is i;
}

-- the marks after one more word
marked : (marks : List ℕ) (ws : List Word) (w : Word) → w.address < length marks → ((a : ℕ) → a < 256 → get_or marks a 0 ≡ choose (given ws a) 1 0) →
    (a : ℕ) → a < 256 → get_or (set marks w.address 1) a 0 ≡ choose (given (ws ++ (w ∷ [])) a) 1 0
marked marks ws w inside old a low = rw (some_more (λ v. eqb v.address a) ws w) (by_cases (ℕ_discrete a w.address)
    (λ (e : a ≡ w.address). rw (e, eq-eqb w.address w.address refl) (get_or-set_same marks w.address 1 0 inside))
    (λ (n : a ≢ w.address). rw (get_or-set_other marks w.address a 1 0 n, ne_eqb w.address a (λ e. n (sym e))) (old a low)))

-- ---- kind by kind
module _ {p : Progress} {marks : List ℕ} (room : Room p marks) where
  pub notes-shape : (s : Shape) → Noted (shape s) p marks (shaped (moved_past p (shape s)) s) marks
  unfolding record_size parts_of total size last_section contents add acts_offset
  notes-shape s = record {
    at-is = omega arith;
    room = record { acts-at-low = omega (arith, room.acts-at-low); requests-low = room.requests-low; marks-size = room.marks-size };
    known = λ before known f. record {
      at-is = omega (arith, known.at-is);
      section-is = refl;
      k-is = refl;
      k-low = (shape-in-range before s f).k-most;
      q-is = refl;
      w-is = refl;
      requests-is = known.requests-is;
      acts-at-is = omega (arith, known.acts-at-is);
      marks-are = known.marks-are;
    };
  }

  pub notes-word : (w : Word) → w.address < 256 → Noted (word w) p marks (moved_past p (word w)) (set marks w.address 1)
  unfolding record_size size last_section contents add acts_offset
  notes-word w low = record {
    at-is = omega arith;
    room = record {
      acts-at-low = rw (word-section w) (omega (arith, room.acts-at-low));
      requests-low = room.requests-low;
      marks-size = length-set marks w.address 1 ∙ room.marks-size;
    };
    known = λ before known f. record {
      at-is = omega (arith, known.at-is);
      section-is = refl;
      k-is = known.k-is;
      k-low = known.k-low;
      q-is = known.q-is;
      w-is = known.w-is;
      requests-is = known.requests-is;
      acts-at-is = rw (word-section w) (omega (arith, known.acts-at-is));
      marks-are = marked marks (words_given before) w (omega (arith, room.marks-size)) known.marks-are;
    };
  }

  pub notes-request : (r : Request) → p.facts.requests < 256 → Noted (request r) p marks (asked (moved_past p (request r))) marks
  unfolding record_size size last_section contents add acts_offset
  notes-request r few = record {
    at-is = omega arith;
    room = record { acts-at-low = rw (request-section r) (omega (arith, room.acts-at-low)); requests-low = omega arith; marks-size = room.marks-size };
    known = λ before known f. record {
      at-is = omega (arith, known.at-is);
      section-is = refl;
      k-is = known.k-is;
      k-low = known.k-low;
      q-is = known.q-is;
      w-is = known.w-is;
      requests-is = omega (arith, known.requests-is, length-append (requests_of before) (r ∷ []));
      acts-at-is = rw (request-section r) (omega (arith, known.acts-at-is));
      marks-are = known.marks-are;
    };
  }

  pub notes-act : (a : Act) → Noted (act a) p marks (moved_past p (act a)) marks
  unfolding size last_section record_size
  notes-act a = record {
    at-is = omega arith;
    room = record { acts-at-low = rw (act-section a) (omega (arith, room.acts-at-low)); requests-low = room.requests-low; marks-size = room.marks-size };
    known = λ before known f.
        known_same (act-same before a) known (omega (arith, known.at-is)) refl (rw (act-section a));
  }
