-- `record_fault` meets its contract: out of its section, or the fault of its own kind.
use Rattle.trace.specs.Refusals.{fault, or_else}
use Rattle.trace.proofs.KindRows.{kind-section}
use Rattle.trace.proofs.rules.record_fault.Goals as goal

pub returns-then-not-may_follow : goal.returns-then-not-may_follow
unfolding fault or_else
returns-then-not-may_follow c = record {
  is = λ before known.
      simp (kind-section c.args.r.kind c.requires.0, ← known.section-is, ← c.section.ensures, ← c.may_follow.ensures, c.if-not-may_follow.true);
}

pub returns : goal.returns
unfolding fault or_else
returns c = record {
  is = λ before known.
      simp (kind-section c.args.r.kind c.requires.0, ← known.section-is, ← c.section.ensures, ← c.may_follow.ensures, c.if-not-may_follow.false)
      (c.own_fault.ensures.is before known);
}
