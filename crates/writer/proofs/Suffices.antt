-- The rows are enough: a list that has more items than rows is refused by 10, with those that are kept and with all.
use Prim.Native.Nat.{ℕ, ◌*◌, ◌≤◌, ◌<◌, min}
use mathlib.Core.Path.{◌≡◌, ap}
use mathlib.Core.List.{List, [], ◌∷◌, map}
use native.Mathlib.Decide.{dec_lt}
use native.Mathlib.Omega.{arith}
use lib.ListN.{length, take}
use lib.Seq.{length-take-le, take-length}
use borrow.Author.Tests.{lt-ltb}
use Rattle.lists.proofs.Tests.{by_cases}
use Rattle.event.specs.Event.{event, drain}
use Rattle.trace.specs.Bytes.{total}
use Rattle.trace.specs.Item.{Item, shape, word, request, act}
use Rattle.trace.specs.Table.{parts_of, record_size}
use Rattle.writing.specs.Rows.{known}
use Rattle.writing.specs.Writing.{entry_size, list_size, check_list, result}

-- no record has fewer than six bytes
size-least : (x : Item) → 6 ≤ record_size x
unfolding record_size parts_of total
size-least (shape s) = omega arith
size-least (word w) = omega arith
size-least (request r) = omega arith
size-least (act (event e)) = omega arith
size-least (act (drain n)) = omega arith

sizes-least : (xs : List Item) → 6 * length xs ≤ list_size (map known xs)
unfolding list_size entry_size
sizes-least [] = omega arith
sizes-least (x ∷ xs) = omega (arith, size-least x, sizes-least xs)

long-told : (xs ys : List Item) → 10922 < length xs → 10922 < length ys → result (map known xs) 65536 ≡ result (map known ys) 65536
unfolding result check_list
long-told xs ys h k =
    simp (lt-ltb 65536 (list_size (map known xs)) (omega (arith, sizes-least xs)), lt-ltb 65536 (list_size (map known ys)) (omega (arith, sizes-least ys)))

pub first-suffice : (xs : List Item) (n : ℕ) → n ≡ min (length xs) 10923 → result (map known (take n xs)) 65536 ≡ result (map known xs) 65536
first-suffice xs n e =
    by_cases (dec_lt (length xs) 10923)
    (λ (h : length xs < 10923).
    let all : n ≡ length xs = omega (arith, e) in
    rw all (ap (λ (l : List Item). result (map known l) 65536) (take-length xs)))
    (λ (h : ¬ (length xs < 10923)).
    let long : n ≡ 10923 = omega (arith, e) in
    long-told (take n xs) xs (omega (arith, length-take-le n xs (omega (arith, long)), long)) (omega arith))
