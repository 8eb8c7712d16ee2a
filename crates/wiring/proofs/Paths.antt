-- A path in one word, put together from level k down: each level's position comes in below those of the levels above it.
-- The route is the bits of the engine, then those of the module; what is left of it shows the next position.
use mathlib.Core.Path.{◌≡◌, sym, ◌∙◌, ap}
use Prim.Native.Nat.{ℕ, zero, suc, ◌+◌, ◌-◌, ◌*◌, ◌/◌, ◌%◌, ◌^◌, ◌≤◌, ◌<◌}
use native.Mathlib.Nat.{add_comm, mul_assoc, div-one, add-mul-div_right, lt_of_lt_of_le}
use native.Mathlib.Omega.{arith}
use lib.Pow.{pow-add, pow_mono, pow_pos, shr-shr}
use Rattle.words.proofs.Digits.{place, place-suc, digit-pushed, digit-moved}
use Rattle.wiring.specs.Wiring.{module_of, position}
use Rattle.wiring.specs.Inner.Path.{position_on, PathOf}
use Rattle.wiring.proofs.Laws.{position-below}
use Rattle.wiring.proofs.Shifts.{width_small}

-- the position at level s is what k bits of the route show, k - s from the lowest on
pub position-window : (k e m s : ℕ) → s ≤ k → position k e m s ≡ (e * 2 ^ k + m) / 2 ^ (k - s) % 2 ^ k
unfolding position
position-window k e m s l =
    let b : k ≡ s + (k - s) = omega arith in
    let d : 2 ^ k ≡ 2 ^ s * 2 ^ (k - s) = ap (λ (n : ℕ). 2 ^ n) b ∙ pow-add 2 s (k - s) in
    let p : e * 2 ^ k ≡ e * 2 ^ s * 2 ^ (k - s) = ap (λ (n : ℕ). e * n) d ∙ sym (mul_assoc e (2 ^ s) (2 ^ (k - s))) in
    let q : e * 2 ^ k + m ≡ m + e * 2 ^ s * 2 ^ (k - s) = omega arith in
    let w : (e * 2 ^ k + m) / 2 ^ (k - s) ≡ e * 2 ^ s + m / 2 ^ (k - s) =
    ap (λ (n : ℕ). n / 2 ^ (k - s)) q ∙ add-mul-div_right m (e * 2 ^ s) (pow_pos (k - s)) ∙ add_comm (m / 2 ^ (k - s)) (e * 2 ^ s) in
    ap (λ (n : ℕ). n % 2 ^ k) (sym w)

-- the word has the positions of levels `left` to k, and the route is shifted so far
pub record From (k e m left route path : ℕ) : Type 0 where
  pub within : left ≤ k + 1
  pub shifted : route ≡ (e * 2 ^ k + m) / 2 ^ (k + 1 - left)
  pub positions : (i : ℕ) → i + left ≤ k → position_on path i ≡ position k e m (i + left)
  pub small : path < place 4 (k + 1 - left)

module _ {k e m : ℕ} where
  pub from-none : From k e m (k + 1) (e * 2 ^ k + m) 0
  from-none =
      let z : k + 1 - (k + 1) ≡ 0 = omega arith in
      record { within = omega arith; shifted = rw z (sym (div-one (e * 2 ^ k + m))); positions = λ i h. absurd (omega arith); small = rw z (omega arith) }

  module _ (few : k ≤ 4) {left route path : ℕ} (h : From k e m left route path) where
    -- while a level is left, the word has at most four positions
    pub from-small : 0 < left → path < 2 ^ 16
    from-small l = lt_of_lt_of_le h.small (pow_mono {i = (k + 1 - left) * 4} {j = 16} (omega arith))

    next_small : position k e m (left - 1) < 16
    next_small = omega (arith, position-below k e m (left - 1), width_small k few)

    next-positions : 0 < left → (i : ℕ) → i + (left - 1) ≤ k → position_on (path * 16 + position k e m (left - 1)) i ≡ position k e m (i + (left - 1))
    unfolding position_on
    next-positions l zero g = digit-pushed 4 path (position k e m (left - 1)) next_small ∙ ap (position k e m) (omega arith)
    next-positions l (suc i) g =
        digit-moved 4 path (position k e m (left - 1)) i next_small ∙ h.positions i (omega arith) ∙ ap (position k e m) (omega arith)

    next-shown : 0 < left → module_of k route ≡ position k e m (left - 1)
    unfolding module_of
    next-shown l =
        let d : k - (left - 1) ≡ k + 1 - left = omega (arith, h.within) in
        ap (λ (n : ℕ). n % 2 ^ k) h.shifted ∙ sym (rw d at (position-window k e m (left - 1) (omega (arith, h.within))))

    pub from_next : 0 < left → From k e m (left - 1) (route / 2) (path * 16 + module_of k route)
    from_next l =
        let n : k + 1 - (left - 1) ≡ k + 1 - left + 1 = omega (arith, h.within) in
        let s : k + 1 - (left - 1) ≡ suc (k + 1 - left) = omega (arith, h.within) in
        rw (next-shown l) record {
          within = omega (arith, h.within);
          shifted = ap (λ (r : ℕ). r / 2) h.shifted ∙ rw n (shr-shr (e * 2 ^ k + m) (k + 1 - left) 1);
          positions = next-positions l;
          small = rw (s, place-suc 4 (k + 1 - left)) (omega (arith, h.small, next_small));
        }

    pub from_all : left ≡ 0 → PathOf k e m path
    from_all z = record {
      positions = λ s l. h.positions s (omega arith) ∙ ap (position k e m) (omega arith);
      small = lt_of_lt_of_le h.small (pow_mono {i = (k + 1 - left) * 4} {j = 20} (omega arith));
    }
