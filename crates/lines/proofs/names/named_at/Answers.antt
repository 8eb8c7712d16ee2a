-- `named_at` meets its contract: the names in the code are the names of the definitions, by computation.
use Rattle.std.proofs.Common.{◌∙◌, arith}
use Rattle.digits.specs.Numeral.{bytes_of}
use Rattle.lines.specs.Forms.{operations, whats, names_at}
use Rattle.lines.proofs.Places.{position-named, none-named}
use Rattle.lines.proofs.names.named_at.Goals as goal

pub returns-in-Request-eq1 : goal.returns-in-Request-eq1
unfolding bytes_of names_at
returns-in-Request-eq1 c = rw (c.in-Request-eq1.is-0, c.in-Request-eq1.is-1) (c.place_among.ensures ∙ position-named c.args.name.now operations)

pub returns-in-Event-eq0 : goal.returns-in-Event-eq0
unfolding bytes_of names_at
returns-in-Event-eq0 c = rw (c.in-Event-eq0.is-0, c.in-Event-eq0.is-1) (c.place_among-in-Event-eq0.ensures ∙ position-named c.args.name.now whats)

pub returns-in_default : goal.returns-in_default
returns-in_default c = none-named _ _ _ (grind arith) (grind arith)

pub returns-in_default-2 : goal.returns-in_default-2
returns-in_default-2 c = none-named _ _ _ (grind arith) (grind arith)

pub returns-in_default-3 : goal.returns-in_default-3
returns-in_default-3 c = none-named _ _ _ (grind arith) (grind arith)
