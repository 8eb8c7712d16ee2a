-- The loop goes on behind a run of acts that are not refused.
use Prim.Native.Nat.{ℕ}
use mathlib.Core.Path.{◌≡◌, refl, sym, ◌∙◌}
use mathlib.Core.List.{List}
use native.Mathlib.Omega.{arith}
use Rattle.trace.specs.Inner.Known.{Passed}
use Rattle.trace.specs.declared.progress.Progress.{Progress}
use Rattle.trace.proofs.Known.{known_same}
use Rattle.load.specs.Inner.Loop.{Onward}
use Rattle.load.proofs.Keeps.{loaded-same}

pub onward-run : (s : List ℕ) (p : Progress) (end : ℕ) → Passed s p.facts.k p.at end → p.section ≡ 4 →
    Onward s p (record p { at = end })
onward-run s p end passed section-is = record {
  onward = passed.onward;
  inside = λ marks words m i.
      let so = i.so_far in
      let r = passed.run so.before (sym so.known.section-is ∙ section-is) (sym so.known.k-is) in
      record {
        short = i.short;
        at-inside = passed.inside;
        room = record {
          known = record {
            acts-at-low = omega (arith, i.room.known.acts-at-low, passed.onward);
            requests-low = i.room.known.requests-low;
            marks-size = i.room.known.marks-size;
          };
          words_size = i.room.words_size;
        };
        so_far = record {
          before = r.all;
          known = known_same r.same so.known (omega (arith, r.size_is, so.known.at-is)) (section-is ∙ sym r.last-is) refl;
          marks-sized = so.marks-sized;
          loaded = loaded-same r.same so.loaded;
          verdict = so.verdict ∙ r.verdict;
        };
      };
}

pub onward-same : (s : List ℕ) (p : Progress) → Onward s p p
onward-same s p = record { onward = omega arith; inside = λ marks words m i. i }
