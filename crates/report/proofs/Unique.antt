-- Only one result and one content of the buffer keep the promise: document 01, "How tightly the statements bind".
use Prim.Native.Nat.{ℕ}
use mathlib.Core.Path.{◌≡◌, sym, ◌∙◌}
use mathlib.Core.List.{List}
use Rattle.report.specs.Written.{Reported}
use Rattle.std.specs.Prelude.{Option}

pub only_one : (trace before : List ℕ) (r r' : Option ℕ) (after after' : List ℕ) → Reported trace before r after → Reported trace before r' after' →
    (r ≡ r') × (after ≡ after')
only_one trace before r r' after after' p p' = (p.len_is ∙ sym p'.len_is, p.text-is ∙ sym p'.text-is)
