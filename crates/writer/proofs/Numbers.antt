-- No refusal of a list has the number 0.
use Prim.Native.Nat.{ℕ, zero, suc, ◌<◌}
use mathlib.Core.Path.{◌≡◌, refl}
use mathlib.Core.Bool.{Bool, true, false}
use mathlib.Core.List.{List, [], ◌∷◌}
use native.Mathlib.Omega.{arith}
use lib.Dec.{ltb, leb}
use Rattle.trace.specs.Item.{Items, none, after}
use Rattle.trace.specs.Table.{size}
use Rattle.trace.specs.Refusals.{fault}
use Rattle.trace.specs.Check.{Verdict, refused, accepted, ended, decide, check_records}
use Rattle.writing.specs.Rows.{Entry, known, unknown}
use Rattle.writing.specs.Writing.{Result, refusal, acceptance, list_size, records_of, check_list, told_by, result}

-- 1 where there is no refusal
abbrev verdict_number : Verdict → ℕ
verdict_number (refused n before) = n
verdict_number (accepted xs) = 1

abbrev result_number : Result → ℕ
result_number (refusal number offset row) = number
result_number (acceptance xs) = 1

ended_some : (before : Items) → 0 < verdict_number (ended before)
unfolding ended
ended_some none = omega arith
ended_some (after before x) = omega arith

decide-some : (n : ℕ) (before : Items) (rest : Verdict) → 0 < verdict_number rest → 0 < verdict_number (decide n before rest)
unfolding decide
decide-some zero before rest h = h
decide-some (suc n) before rest h = omega arith

records-some : (es : List Entry) (before : Items) → 0 < verdict_number (check_records before (records_of es))
unfolding check_records records_of
records-some [] before = ended_some before
records-some (known x ∷ es) before = decide-some (fault before x) before (check_records (after before x) (records_of es)) (records-some es (after before x))
records-some (unknown ∷ es) before = omega arith

list-some : (es : List Entry) → 0 < verdict_number (check_list es)
unfolding check_list
list-some es = go (ltb 65536 (list_size es)) refl
  where
    go : (t : Bool) → ltb 65536 (list_size es) ≡ t → 0 < verdict_number (check_list es)
    go true e = rw e (omega arith)
    go false e = rw e (records-some es none)

told-some : (v : Verdict) (room : ℕ) → 0 < verdict_number v → 0 < result_number (told_by v room)
unfolding told_by
told-some (refused n before) room h = h
told-some (accepted xs) room h = go (leb (size xs) room) refl
  where
    go : (t : Bool) → leb (size xs) room ≡ t → 0 < result_number (told_by (accepted xs) room)
    go true e = rw e (omega arith)
    go false e = rw e (omega arith)

pub result-some : (es : List Entry) (room : ℕ) (number offset row : ℕ) → result es room ≡ refusal number offset row → 0 < number
unfolding result
result-some es room number offset row e = rw e at (told-some (check_list es) room (list-some es))
