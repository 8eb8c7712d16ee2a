-- Numbers written in bytes, and read back.
use Prim.Native.Nat.{ℕ, zero, suc, ◌+◌, ◌*◌, ◌/◌, ◌%◌, ◌≤◌, ◌<◌, ◌^◌}
use mathlib.Core.Path.{◌≡◌, refl, ap, sym, ◌∙◌}
use mathlib.Core.List.{List, [], ◌∷◌, ◌++◌, append_assoc}
use native.Mathlib.Omega.{arith}
use native.Mathlib.Nat.{pow-succ', zero-add, add-zero, add-suc, suc-add, mul_assoc, mul_comm}
use native.Mathlib.Numerals.{add-one}
use native.Mathlib.Decide.{dec_lt}
use lib.ListN.{length, get_or, take, drop, length-append, length-take, get_or-eq_default}
use lib.Seq.{get_or-append_seam, get_or-drop, get_or-take, drop-cons}
use Rattle.lists.proofs.Tests.{by_cases}
use Rattle.std.specs.Int.{sum_through, byte_worth}
use Rattle.std.specs.List.{slice_index}
use Rattle.words.specs.Inner.Digits.{byte_in}
use Rattle.words.proofs.Digits.{digit-zero, digit-suc}
use Rattle.trace.specs.Bytes.{AreBytes, number}
use Rattle.trace.specs.Write.{bytes}

pub bytes_drop : {s : List ℕ} → AreBytes s → (n : ℕ) → AreBytes (drop n s)
bytes_drop {s} b n = record { below = λ i. rw (get_or-drop n s i 0) (b.below (n + i)) }

pub bytes_take : {s : List ℕ} → AreBytes s → (n : ℕ) → AreBytes (take n s)
bytes_take {s} b n = record { below = go }
  where
    go : (i : ℕ) → get_or (take n s) i 0 < 256
    go i = by_cases (dec_lt i n)
        (λ (h : i < n). rw (get_or-take n s i 0 h) (b.below i))
        (λ (h : ¬ (i < n)). rw (get_or-eq_default (take n s) 0 {n = i} (omega (arith, length-take n s))) (omega arith))

pub number-drop : (n : ℕ) (s : List ℕ) (at i : ℕ) → number n (drop at s) i ≡ number n s (at + i)
unfolding number
number-drop zero s at i = refl
number-drop (suc n) s at i = rw (get_or-drop at s i 0, number-drop n s at (suc i), add-suc)

-- the number of n bytes and m bytes behind them
pub number-join : (n m : ℕ) (s : List ℕ) (i : ℕ) → number (n + m) s i ≡ number n s i + 256 ^ n * number m s (i + n)
unfolding number
number-join zero m s i = rw (zero-add m, add-zero i) (omega arith)
number-join (suc n) m s i =
    let on : suc i + n ≡ i + suc n = omega arith in
    rw (suc-add n m, number-join n m s (suc i), pow-succ' 256 n, on, mul_assoc 256 (256 ^ n) (number m s (i + suc n))) (omega arith)

-- of the first m bytes, where they have it
number-take : (n m : ℕ) (s : List ℕ) (i : ℕ) → i + n ≤ m → number n (take m s) i ≡ number n s i
unfolding number
number-take zero m s i h = refl
number-take (suc n) m s i h = rw (get_or-take m s i 0 (omega arith), number-take n m s (suc i) (omega arith))

-- a number of one byte is the byte
pub number-one : (s : List ℕ) (i : ℕ) → number 1 s i ≡ get_or s i 0
unfolding number
number-one s i = add-zero (get_or s i 0)

-- the bytes as std sums them
number-sum : (s : List ℕ) (n : ℕ) → sum_through (λ j. byte_worth j (slice_index s j)) n ≡ number (suc n) s 0
number-sum s zero = sym (number-one s 0)
number-sum s (suc n) =
    let join : number (suc (suc n)) s 0 ≡ number (suc n) s 0 + 256 ^ suc n * get_or s (suc n) 0 =
    rw (← add-one) (number-join (suc n) 1 s 0 ∙ rw (zero-add (suc n), number-one s (suc n)) refl) in
    omega (arith, number-sum s n, join, mul_comm (get_or s (suc n) 0) (256 ^ suc n))

pub number-read : (n : ℕ) (s : List ℕ) (i : ℕ) {b : List ℕ} → b ≡ take (suc n) (drop i s) →
    sum_through (λ j. byte_worth j (slice_index b j)) n ≡ number (suc n) s i
number-read n s i is =
    rw is (number-sum (take (suc n) (drop i s)) n ∙ number-take (suc n) (suc n) (drop i s) 0 (omega arith) ∙ number-drop (suc n) s i 0 ∙ rw (add-zero i) refl)

pub number-below : {s : List ℕ} → AreBytes s → (n i : ℕ) → number n s i < 256 ^ n
unfolding number
number-below b zero i = omega arith
number-below b (suc n) i = omega (arith, pow-succ' 256 n, b.below i, number-below b n (suc i))

-- one byte of a number that is read
pub byte-number : {s : List ℕ} → AreBytes s → (count i j : ℕ) → j < count → byte_in (number count s i) j ≡ get_or s (i + j) 0
unfolding number
byte-number are zero i j l = absurd (omega arith)
byte-number {s} are (suc count) i zero l = digit-zero 8 (number (suc count) s i) ∙ rw add-zero (omega (arith, are.below i))
byte-number {s} are (suc count) i (suc j) l =
    let e : number (suc count) s i / 256 ≡ number count s (suc i) = omega (arith, are.below i) in
    let m : suc i + j ≡ i + suc j = omega arith in
    digit-suc 8 (number (suc count) s i) j ∙ rw (e, ← m) (byte-number are count (suc i) j (omega arith))

pub length-bytes : (n v : ℕ) → length (bytes n v) ≡ n
unfolding bytes
length-bytes zero v = refl
length-bytes (suc n) v = ap suc (length-bytes n (v / 256))

-- what is read is written again
pub bytes-number : {s : List ℕ} → AreBytes s → (n i : ℕ) → i + n ≤ length s → bytes n (number n s i) ≡ take n (drop i s)
unfolding bytes number
bytes-number b zero i h = refl
bytes-number {s} b (suc n) i h =
    let a = get_or s i 0 in
    let rest = number n s (suc i) in
    let low : a < 256 = b.below i in
    let least : (a + 256 * rest) % 256 ≡ a = omega arith in
    let others : (a + 256 * rest) / 256 ≡ rest = omega arith in
    let inside : i < length s = omega arith in
    rw (least, others, drop-cons s i 0 inside) (ap (λ (l : List ℕ). a ∷ l) (bytes-number b n (suc i) (omega arith)))

-- what is written is read, wherever it stands
pub number-bytes : (n v : ℕ) (front back : List ℕ) → v < 256 ^ n → number n (front ++ (bytes n v ++ back)) (length front) ≡ v
unfolding number bytes
number-bytes zero v front back h = omega arith
number-bytes (suc n) v front back h =
    let low : v / 256 < 256 ^ n = omega (arith, pow-succ' 256 n) in
    let rest = simp (append_assoc, length-append, add-one) at (number-bytes n (v / 256) (front ++ (v % 256 ∷ [])) back low) in
    rw (get_or-append_seam front (v % 256) (bytes n (v / 256) ++ back) 0, rest) (omega arith)
