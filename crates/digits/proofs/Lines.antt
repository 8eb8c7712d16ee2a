-- A line of a name and numbers, number by number.
use Prim.Native.Nat.{ℕ, ◌+◌, ◌≤◌, ◌<◌}
use mathlib.Core.Path.{◌≡◌, sym, ◌∙◌, ap}
use mathlib.Core.List.{List, [], ◌∷◌, ◌++◌, append_assoc, append-nil}
use native.Mathlib.Omega.{arith}
use lib.ListN.{length, get_or, take, length-append}
use Rattle.std.specs.Prelude.{map}
use Rattle.std.specs.List.{flat_map}
use Rattle.std.proofs.lemmas.List.{take_more, flat_map_more, take_all}
use Rattle.std.proofs.lemmas.List.Folds.{length-flat_map-take}
use Rattle.digits.specs.Numeral.{bytes_of, decimal}
use Rattle.digits.specs.Line.{line}
use Rattle.digits.specs.Inner.Buffer.{HasRoom, Writes}
use Rattle.digits.specs.declared.LentBuffer.{LentBuffer}
use Rattle.digits.proofs.Buffer.{writes_then, size-kept}

-- a number behind the space that is between fields
abbrev pub spaced : ℕ → List ℕ
spaced n = 32 ∷ decimal n

pub line-numbers : (name numbers : List ℕ) → line (name ∷ map decimal numbers) ≡ (name ++ flat_map spaced numbers) ++ (10 ∷ [])
unfolding bytes_of
line-numbers name [] = rw append-nil
line-numbers name (n ∷ ns) =
    ap (λ (l : List ℕ). (name ++ (32 ∷ [])) ++ l) (line-numbers (decimal n) ns)
    ∙ append_assoc name (32 ∷ []) _
    ∙ sym (append_assoc name (32 ∷ (decimal n ++ flat_map spaced ns)) (10 ∷ []))

line-length : (name numbers : List ℕ) → length (line (name ∷ map decimal numbers)) ≡ length name + length (flat_map spaced numbers) + 1
line-length name numbers = ap length (line-numbers name numbers) ∙ simp length-append (omega arith)

-- the name and the first i numbers are written
module _ {out middle : LentBuffer} (name numbers : List ℕ) (i : ℕ) (w : Writes out (name ++ flat_map spaced (take i numbers)) middle) where
  pub number-fits : i < length numbers → HasRoom out (length (line (name ∷ map decimal numbers))) → HasRoom middle (length (spaced (get_or numbers i 0)))
  number-fits h room =
      omega (arith, size-kept w, w.wrote.behind, length-append name (flat_map spaced (take i numbers)), length-flat_map-take spaced numbers i 0 h, line-length name numbers)

  pub number_more : i < length numbers → {after : LentBuffer} → Writes middle (spaced (get_or numbers i 0)) after →
      Writes out (name ++ flat_map spaced (take (i + 1) numbers)) after
  number_more h v = rw (take_more numbers i 0 h, ← flat_map_more) (writes_then w v)

  pub newline-fits : length numbers ≤ i → HasRoom out (length (line (name ∷ map decimal numbers))) → HasRoom middle 1
  newline-fits h room =
      omega (arith, size-kept w, w.wrote.behind, length-append name (flat_map spaced (take i numbers)), ap (λ (l : List ℕ). length (flat_map spaced l)) (take_all i numbers h), line-length name numbers)

  pub line-ends : length numbers ≤ i → {after : LentBuffer} → Writes middle (10 ∷ []) after → Writes out (line (name ∷ map decimal numbers)) after
  line-ends h v = rw (line-numbers name numbers) (rw (take_all i numbers h) at (writes_then w v))
