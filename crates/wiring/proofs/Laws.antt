-- The laws of a path: where it starts, where it ends, that its next position depends on the last one and the module alone,
-- and that it is what rotating and replacing gives: document 01, "Wiring and queues".
use mathlib.Core.Path.{◌≡◌, sym, ◌∙◌, ap}
use Prim.Native.Nat.{ℕ, zero, suc, ◌+◌, ◌-◌, ◌*◌, ◌/◌, ◌%◌, ◌^◌, ◌≤◌, ◌<◌}
use native.Mathlib.Nat.{mod-lt, mod-add-mod, mod-eq_of_lt, div-eq_of_lt, pow-suc, div-div-eq-div-mul, mul-add-mod_self_right, mul_assoc}
use native.Mathlib.Omega.{arith}
use lib.Pow.{pow_pos, pow-add, high, low}
use Rattle.lists.proofs.Tests.{below-cases}
use Rattle.wiring.specs.Wiring.{module_of, position, rotated, replaced, next_bit, shuffled}

pub module-below : (k a : ℕ) → module_of k a < 2 ^ k
unfolding module_of
module-below k a = mod-lt a (pow_pos k)

pub position-below : (k e m s : ℕ) → position k e m s < 2 ^ k
unfolding position
position-below k e m s = mod-lt _ (pow_pos k)

-- "Level 0 is the engine, level k the module."
pub position-engine : (k e m : ℕ) → e < 2 ^ k → m < 2 ^ k → position k e m 0 ≡ e
unfolding position
position-engine k e m h l =
    let z : k - 0 ≡ k = omega arith in
    let w : e * 1 + 0 ≡ e = omega arith in
    rw (z, div-eq_of_lt l, w) (mod-eq_of_lt h)

-- beyond level k a path stays at the module
position-beyond : (k e m s : ℕ) → k ≤ s → position k e m s ≡ m % 2 ^ k
unfolding position
position-beyond k e m s h =
    let d : k - s ≡ 0 = omega arith in
    let f : s ≡ (s - k) + k = omega arith in
    let p : 2 ^ s ≡ 2 ^ (s - k) * 2 ^ k = ap (λ (n : ℕ). 2 ^ n) f ∙ pow-add 2 (s - k) k in
    let g : e * 2 ^ s ≡ e * 2 ^ (s - k) * 2 ^ k = ap (λ (n : ℕ). e * n) p ∙ sym (mul_assoc e (2 ^ (s - k)) (2 ^ k)) in
    let w : m / 1 ≡ m = omega arith in
    rw (d, g, w) (mul-add-mod_self_right (e * 2 ^ (s - k)) (2 ^ k) m)

pub position-module : (k e m : ℕ) → m < 2 ^ k → position k e m k ≡ m
position-module k e m l = position-beyond k e m k (omega arith) ∙ mod-eq_of_lt l

twice-mod : (x r n : ℕ) → (x % n * 2 + r) % n ≡ (x * 2 + r) % n
twice-mod x r n =
    let p : x % n * 2 + r ≡ x % n + (x % n + r) = omega arith in
    let q : x + (x % n + r) ≡ x % n + (x + r) = omega arith in
    let w : x + (x + r) ≡ x * 2 + r = omega arith in
    ap (λ (y : ℕ). y % n) p ∙ mod-add-mod x n (x % n + r) ∙ ap (λ (y : ℕ). y % n) q ∙ mod-add-mod x n (x + r) ∙ ap (λ (y : ℕ). y % n) w

-- one level up: twice the position and the module's next bit
pub position-next : (k e m s : ℕ) → s < k → position k e m (suc s) ≡ (position k e m s * 2 + next_bit k m s) % 2 ^ k
unfolding position next_bit
position-next k e m s l =
    let d : k - s ≡ suc (k - suc s) = omega arith in
    rw (twice-mod, d, pow-suc 2 s, pow-suc 2 (k - suc s)) (rw (← div-div-eq-div-mul m (2 ^ (k - suc s)) 2) (ap (λ (y : ℕ). y % 2 ^ k) (omega arith)))

-- one level up depends on the position and the module alone
pub position-onward : (k e e' m s : ℕ) → position k e m s ≡ position k e' m s → position k e m (suc s) ≡ position k e' m (suc s)
position-onward k e e' m s h =
    below-cases s k
    (λ (l : s < k). position-next k e m s l ∙ ap (λ (p : ℕ). (p * 2 + next_bit k m s) % 2 ^ k) h ∙ sym (position-next k e' m s l))
    (λ (l : k ≤ s). position-beyond k e m (suc s) (omega arith) ∙ sym (position-beyond k e' m (suc s) (omega arith)))

bit_below : (k m s : ℕ) → next_bit k m s < 2
unfolding next_bit
bit_below k m s = omega arith

-- "rotate the k bits left by one, then put the next bit of m .. in the low place"
step-shuffles : (k p b : ℕ) → zero < k → p < 2 ^ k → b < 2 → replaced (rotated k p) b ≡ (p * 2 + b) % 2 ^ k
unfolding replaced rotated
step-shuffles zero p b z h l = absurd (omega arith)
step-shuffles (suc k) p b z h l =
    below-cases p (2 ^ k)
    (λ (q : p < 2 ^ k).
    let w : p * 2 < 2 ^ suc k = omega (arith, pow-suc 2 k) in
    let v : p * 2 + b < 2 ^ suc k = omega (arith, pow-suc 2 k) in
    rw (mod-eq_of_lt w, div-eq_of_lt w, mod-eq_of_lt v) (omega arith))
    (λ (q : 2 ^ k ≤ p).
    let r : p * 2 ≡ 1 * 2 ^ suc k + (p - 2 ^ k) * 2 = omega (arith, pow-suc 2 k) in
    let w : (p - 2 ^ k) * 2 < 2 ^ suc k = omega (arith, pow-suc 2 k) in
    let v : (p - 2 ^ k) * 2 + b < 2 ^ suc k = omega (arith, pow-suc 2 k) in
    let u : p * 2 + b ≡ 1 * 2 ^ suc k + ((p - 2 ^ k) * 2 + b) = omega (arith, pow-suc 2 k) in
    rw (u, r, low 1 (suc k) w, high 1 (suc k) w, low 1 (suc k) v) (omega arith))

-- "This is k times: rotate the k bits left by one, then put the next bit of m, highest first, in the low place."
pub position-shuffled : (k e m s : ℕ) → e < 2 ^ k → m < 2 ^ k → s ≤ k → position k e m s ≡ shuffled k e m s
unfolding shuffled
position-shuffled k e m zero h l z = position-engine k e m h l
position-shuffled k e m (suc s) h l z =
    position-next k e m s z
    ∙ sym (step-shuffles k (position k e m s) (next_bit k m s) (omega arith) (position-below k e m s) (bit_below k m s))
    ∙ ap (λ (p : ℕ). replaced (rotated k p) (next_bit k m s)) (position-shuffled k e m s h l (omega arith))
