-- The places that a trace is loaded into stay the caller's own.
use Rattle.std.specs.Prelude.{◌≡◌}
use Rattle.load.specs.declared.put.Places.{Places}

pub record Lent (before after : Places) : Type 0 where
  pub marks : after.marks.ghost_name ≡ before.marks.ghost_name
  pub words : after.words.ghost_name ≡ before.words.ghost_name
  pub m : after.m.ghost_name ≡ before.m.ghost_name
