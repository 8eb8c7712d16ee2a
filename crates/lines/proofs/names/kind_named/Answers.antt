-- `kind_named` meets its contract: the names in the code are the names of the records, by computation.
use Rattle.std.proofs.Common.{◌∙◌}
use Rattle.digits.specs.Numeral.{bytes_of}
use Rattle.lines.proofs.Places.{record_names, position-named}
use Rattle.lines.proofs.Lines.{name_nowhere, name-found}
use Rattle.lines.proofs.names.kind_named.Goals as goal

pub returns-in_err-place : goal.returns-in_err-place
unfolding bytes_of
returns-in_err-place c = rw c.from_residual.ensures (name_nowhere _ (c.in_err-place.ensures ∙ position-named c.args.name.now record_names))

pub returns : goal.returns
unfolding bytes_of
returns c = rw c.ok.ensures.value (name-found _ _ _ (c.in_ok-place.ensures ∙ position-named c.args.name.now record_names) c.try_from.ensures)
