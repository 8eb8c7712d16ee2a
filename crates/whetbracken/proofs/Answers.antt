-- What the C interface says, straight from the definition of a trace's result, and the three demands of it.
use Prim.Native.Nat.{ℕ}
use mathlib.Core.Path.{◌≡◌, ◌∙◌, ap}
use mathlib.Core.List.{List}
use Rattle.model.specs.Result.{Lent, result, memory_after}
use Rattle.model.specs.Promise.{said}
use Rattle.model.specs.Demands.{Demands}
use Rattle.whetbracken.specs.Interface.{numbers, Answered}
use Rattle.whetbracken.specs.declared.Numbers.{Numbers}

module _ {trace : List ℕ} {before after : Lent} {r : Numbers} (p : Answered trace before r after) where
  pub numbers-said : r ≡ numbers (said (result trace before))
  numbers-said = p.numbers-are ∙ ap numbers p.kept.promised.answer-is

  pub memory-left : after ≡ memory_after (result trace before) before
  memory-left = p.kept.promised.memory-is

  pub meets-demands : Demands trace before p.answer after
  meets-demands = p.kept.demands
