-- What is known of a trace that `load` accepts.
use Prim.Native.Nat.{ℕ}
use mathlib.Core.Path.{◌≡◌, refl, sym, ◌∙◌, ap}
use mathlib.Core.List.{List}
use Rattle.std.specs.Prelude.{Result, Ok}
use Rattle.lists.proofs.Tests.{clash}
use Rattle.trace.specs.Check.{Verdict, refused, accepted, items_of, check}
use Rattle.trace.specs.Inner.Told.{facts_of, acceptance, answered, tells}
use Rattle.trace.specs.declared.Facts.{Facts}
use Rattle.trace.specs.declared.Refusal.{Refusal}
use Rattle.load.specs.Inner.Loaded.{Loaded}
use Rattle.run.specs.Inner.Run.{Loading}

told-accepted : (v : Verdict) (facts : Facts) → acceptance facts ≡ answered v → (v ≡ accepted (items_of v)) × (facts ≡ facts_of (items_of v))
told-accepted (refused n before) facts e = clash (cc)
told-accepted (accepted xs) facts e = (refl, cc)

pub load-loading : {trace : List ℕ} {r : Result Facts Refusal} {marks words m : List ℕ} → Loaded trace r marks words m →
    {facts : Facts} → r ≡ Ok facts → Loading trace facts m words
load-loading {trace} l {facts} e =
    let t = told-accepted (check trace) facts (ap tells (sym e) ∙ l.answer) in
    record { verdict = t.0; facts-are = t.1; sized = l.sized; requests-are = l.requests-are; words_are = l.words_are }
