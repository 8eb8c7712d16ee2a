-- The number and the offset of a trace that is refused.
use Prim.Native.Nat.{ℕ}
use mathlib.Core.Path.{◌≡◌, refl, ap, sym, ◌∙◌}
use mathlib.Core.List.{List}
use Rattle.std.specs.Prelude.{Err}
use Rattle.lists.proofs.Tests.{clash}
use Rattle.trace.specs.Item.{Items}
use Rattle.trace.specs.Table.{size}
use Rattle.trace.specs.Check.{Verdict, refused, accepted, check}
use Rattle.trace.specs.Answers.{number_of}
use Rattle.trace.specs.Inner.Told.{refusal, answered}
use Rattle.trace.specs.declared.Fault.{Fault}
use Rattle.trace.specs.declared.Refusal.{Refusal}
use Rattle.load.specs.Inner.Loaded.{Loaded}

pub record Closed (s : List ℕ) (f : Fault) (at : ℕ) : Type 0 where
  pub before : Items
  pub refuses : check s ≡ refused (number_of f) before
  pub at-is : at ≡ size before

pub loaded-refused : {s : List ℕ} {e : Refusal} {marks words m : List ℕ} → Loaded s (Err e) marks words m → Closed s e.fault e.offset
loaded-refused {s} {e = r} l = go (check s) refl l.answer
  where
    number_is : (n m : ℕ) → refusal (number_of r.fault) r.offset ≡ refusal n m → number_of r.fault ≡ n
    number_is n m h = cc

    offset-is : (n m : ℕ) → refusal (number_of r.fault) r.offset ≡ refusal n m → r.offset ≡ m
    offset-is n m h = cc

    go : (v : Verdict) → check s ≡ v → refusal (number_of r.fault) r.offset ≡ answered v → Closed s r.fault r.offset
    go (refused n before) e a = record {
      before = before;
      refuses = e ∙ ap (λ (m : ℕ). refused m before) (sym (number_is n (size before) a));
      at-is = offset-is n (size before) a;
    }
    go (accepted xs) e a = clash (cc)
