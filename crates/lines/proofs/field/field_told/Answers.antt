-- `field_told` meets its contract.
use mathlib.Core.Path.{sym, ◌∙◌}
use Rattle.lines.proofs.Numbers.{unnamed_told, named-told}
use Rattle.lines.proofs.field.field_told.Goals as goal

pub returns-in-None : goal.returns-in-None
returns-in-None c = unnamed_told _ _ _ _ (sym c.in-None.is ∙ c.named_at.ensures) c.largest.ensures c.number_told.ensures

pub returns-in-Some : goal.returns-in-Some
returns-in-Some c = named-told _ _ _ _ (sym c.in-Some.is ∙ c.named_at.ensures)
