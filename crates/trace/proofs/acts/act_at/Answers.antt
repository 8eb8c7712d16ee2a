-- `act_at` meets its contract: each way out cites what is read there of the acts left.
use Prim.Native.Nat.{ℕ}
use Rattle.std.specs.Prelude.{Some}
use mathlib.Core.Path.{◌∙◌, ap}
use native.Mathlib.Omega.{arith}
use Rattle.trace.specs.declared.acts.Act.TheVariants.{Drain}
use Rattle.trace.proofs.ActsLeft.{act-room, event-room, drain-room, read-end, read-event, read-drain}
use Rattle.trace.proofs.acts.act_at.Goals as goal

pub returns-then-at-s : goal.returns-then-at-s
returns-then-at-s c = record { is = λ left l. read-end _ _ left l c.if-at-s.true }

pub bounds-s-at : goal.bounds-s-at
bounds-s-at c = omega (arith, act-room _ _ _ c.requires.are-left c.if-at-s.false)

pub bounds-s-at-then-s-at : goal.bounds-s-at-then-s-at
bounds-s-at-then-s-at c = omega (arith, event-room _ _ _ c.requires.are-left c.if-at-s.false c.if-s-at.true)

pub bounds-s-at-then-s-at-2 : goal.bounds-s-at-then-s-at-2
bounds-s-at-then-s-at-2 c = omega (arith, event-room _ _ _ c.requires.are-left c.if-at-s.false c.if-s-at.true)

pub bounds-s-at-then-s-at-3 : goal.bounds-s-at-then-s-at-3
bounds-s-at-then-s-at-3 c = omega (arith, event-room _ _ _ c.requires.are-left c.if-at-s.false c.if-s-at.true)

pub returns-then-s-at : goal.returns-then-s-at
returns-then-s-at c = record { is = λ left l. read-event _ _ left l c.if-at-s.false c.if-s-at.true }

pub number2-requires : goal.number2-requires
number2-requires c = omega (arith, drain-room _ _ _ c.requires.are-left c.if-at-s.false c.if-s-at.false)

pub returns : goal.returns
returns c = record { is = λ left l. ap (λ (n : ℕ). Some (Drain n)) c.number2.ensures.0 ∙ read-drain _ _ left l c.if-at-s.false c.if-s-at.false }
