-- The reason stands behind the number of its line.
use Prim.Native.Nat.{ℕ}
use mathlib.Core.Path.{◌≡◌, refl}
use mathlib.Core.List.{◌++◌}
use Rattle.digits.specs.Numeral.{bytes_of, decimal}
use Rattle.digits.specs.Line.{line}
use Rattle.lines.specs.declared.Reason.{Reason}
use Rattle.lines.specs.declared.Reason.TheVariants.{Name, Missing, Extra, NoNumber, TooLarge}
use Rattle.writer.specs.Told.{reason_fields, wrong_text}

pub wrong-parts : (number : ℕ) (reason : Reason) (place : ℕ) →
    (bytes_of "line" ++ bytes_of " ") ++ (((decimal number ++ bytes_of ":") ++ bytes_of " ") ++ line (reason_fields reason place)) ≡ wrong_text number reason place
unfolding reason_fields wrong_text
wrong-parts number Name place = refl
wrong-parts number Missing place = refl
wrong-parts number Extra place = refl
wrong-parts number NoNumber place = refl
wrong-parts number TooLarge place = refl
