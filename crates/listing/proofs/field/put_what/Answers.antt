-- `field::put_what` meets its contract: a name for each number that has one.
use Prim.Native.Nat.{ℕ}
use mathlib.Core.Path.{◌≡◌, sym, ◌∙◌, ap}
use Rattle.digits.specs.Numeral.{bytes_of}
use Rattle.event.specs.declared.Step.{Step}
use Rattle.event.specs.declared.Step.TheVariants.{Issue, Forward, Module, Return, Collect}
use Rattle.event.specs.Inner.Steps.{number_of_step}
use Rattle.listing.specs.Inner.Fields.{what_shown}
use Rattle.listing.proofs.Lines.{what-unnamed}
use Rattle.listing.proofs.field.put_what.Goals as goal

-- what is shown of the number that tells a step
shown : (step : Step) {told : Step} {v : ℕ} → told ≡ step → number_of_step told ≡ v → what_shown v ≡ what_shown (number_of_step step)
shown step e n = ap what_shown (sym n ∙ ap number_of_step e)

pub field-requires : goal.field-requires
unfolding what_shown bytes_of
field-requires c = rw (shown Issue c.in-Ok-Issue.field-0-is c.in-Ok-Issue.ensures) at c.requires

pub returns-in-Ok-Issue : goal.returns-in-Ok-Issue
unfolding what_shown bytes_of
returns-in-Ok-Issue c = rw (shown Issue c.in-Ok-Issue.field-0-is c.in-Ok-Issue.ensures) c.field.ensures

pub field-requires-in-Ok-Forward : goal.field-requires-in-Ok-Forward
unfolding what_shown bytes_of
field-requires-in-Ok-Forward c = rw (shown Forward c.in-Ok-Forward.field-0-is c.in-Ok-Forward.ensures) at c.requires

pub returns-in-Ok-Forward : goal.returns-in-Ok-Forward
unfolding what_shown bytes_of
returns-in-Ok-Forward c = rw (shown Forward c.in-Ok-Forward.field-0-is c.in-Ok-Forward.ensures) c.field-in-Ok-Forward.ensures

pub field-requires-in-Ok-Module : goal.field-requires-in-Ok-Module
unfolding what_shown bytes_of
field-requires-in-Ok-Module c = rw (shown Module c.in-Ok-Module.field-0-is c.in-Ok-Module.ensures) at c.requires

pub returns-in-Ok-Module : goal.returns-in-Ok-Module
unfolding what_shown bytes_of
returns-in-Ok-Module c = rw (shown Module c.in-Ok-Module.field-0-is c.in-Ok-Module.ensures) c.field-in-Ok-Module.ensures

pub field-requires-in-Ok-Return : goal.field-requires-in-Ok-Return
unfolding what_shown bytes_of
field-requires-in-Ok-Return c = rw (shown Return c.in-Ok-Return.field-0-is c.in-Ok-Return.ensures) at c.requires

pub returns-in-Ok-Return : goal.returns-in-Ok-Return
unfolding what_shown bytes_of
returns-in-Ok-Return c = rw (shown Return c.in-Ok-Return.field-0-is c.in-Ok-Return.ensures) c.field-in-Ok-Return.ensures

pub field-requires-in-Ok-Collect : goal.field-requires-in-Ok-Collect
unfolding what_shown bytes_of
field-requires-in-Ok-Collect c = rw (shown Collect c.in-Ok-Collect.field-0-is c.in-Ok-Collect.ensures) at c.requires

pub returns-in-Ok-Collect : goal.returns-in-Ok-Collect
unfolding what_shown bytes_of
returns-in-Ok-Collect c = rw (shown Collect c.in-Ok-Collect.field-0-is c.in-Ok-Collect.ensures) c.field-in-Ok-Collect.ensures

pub number-requires : goal.number-requires
number-requires c = rw (what-unnamed c.args.v c.in-Err.ensures) at c.requires

pub returns-in-Err : goal.returns-in-Err
returns-in-Err c = rw (what-unnamed c.args.v c.in-Err.ensures) c.number.ensures
