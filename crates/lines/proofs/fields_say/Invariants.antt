-- `fields_say` meets its contract: field after field, as far as each is there and has a number.
use Rattle.trace.specs.Inner.Kinds.{number_of_kind}
use Rattle.lines.specs.Inner.Read.{FieldsRead}
use Rattle.lines.proofs.fields_say.Given as goal

abbrev pub invariant-loop-place : goal.invariant-loop-place
invariant-loop-place l = FieldsRead l.line (number_of_kind l.kind) l.values l.place-counter l.rest
