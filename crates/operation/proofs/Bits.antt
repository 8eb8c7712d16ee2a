-- And and xor, bit by bit: each law by induction on halves, its lowest bits by their eight cases.
use Rattle.std.proofs.Common.{◌≡◌, ℕ, zero, suc, ◌/◌, ◌%◌, ◌<◌, refl, arith}
use lib.Arith.{bin_ind}
use lib.Bits.{bit_and, bit_xor, and_shr, xor_shr, and_mod, xor_mod}

bit-cases : (P : ℕ → Type 0) → P 0 → P 1 → (n : ℕ) → P (n % 2)
bit-cases P a b n = go (n % 2) (omega arith)
  where
    go : (x : ℕ) → x < 2 → P x
    go zero h = a
    go (suc zero) h = b
    go (suc (suc x)) h = absurd (omega arith)

three-bits : (P : ℕ → ℕ → ℕ → Type 0) → P 0 0 0 → P 0 0 1 → P 0 1 0 → P 0 1 1 → P 1 0 0 → P 1 0 1 → P 1 1 0 → P 1 1 1 → (a b c : ℕ) → P (a % 2) (b % 2) (c % 2)
three-bits P p q r s t u v w a b c =
    bit-cases (λ x. P x (b % 2) (c % 2))
    (bit-cases (λ y. P 0 y (c % 2)) (bit-cases (P 0 0) p q c) (bit-cases (P 0 1) r s c) b)
    (bit-cases (λ y. P 1 y (c % 2)) (bit-cases (P 1 0) t u c) (bit-cases (P 1 1) v w c) b)
    a

same_bits : (a b : ℕ) → a / 2 ≡ b / 2 → a % 2 ≡ b % 2 → a ≡ b
same_bits a b p q = omega arith

and-half : (a b : ℕ) → bit_and a b / 2 ≡ bit_and (a / 2) (b / 2)
and-half a b = and_shr a b 1

xor-half : (a b : ℕ) → bit_xor a b / 2 ≡ bit_xor (a / 2) (b / 2)
xor-half a b = xor_shr a b 1

and-bit : (a b : ℕ) → bit_and a b % 2 ≡ bit_and (a % 2) (b % 2)
and-bit a b = and_mod a b 1

xor-bit : (a b : ℕ) → bit_xor a b % 2 ≡ bit_xor (a % 2) (b % 2)
xor-bit a b = xor_mod a b 1

pub and_assoc : (a b c : ℕ) → bit_and (bit_and a b) c ≡ bit_and a (bit_and b c)
and_assoc =
    bin_ind (λ a. (b c : ℕ) → bit_and (bit_and a b) c ≡ bit_and a (bit_and b c)) (λ b c. refl)
    (λ a ih b c. same_bits _ _ (simp and-half (ih (b / 2) (c / 2)))
    (simp and-bit (three-bits (λ x y z. bit_and (bit_and x y) z ≡ bit_and x (bit_and y z)) refl refl refl refl refl refl refl refl a b c)))

pub xor_assoc : (a b c : ℕ) → bit_xor (bit_xor a b) c ≡ bit_xor a (bit_xor b c)
xor_assoc =
    bin_ind (λ a. (b c : ℕ) → bit_xor (bit_xor a b) c ≡ bit_xor a (bit_xor b c)) (λ b c. refl)
    (λ a ih b c. same_bits _ _ (simp xor-half (ih (b / 2) (c / 2)))
    (simp xor-bit (three-bits (λ x y z. bit_xor (bit_xor x y) z ≡ bit_xor x (bit_xor y z)) refl refl refl refl refl refl refl refl a b c)))

pub and_xor : (a b c : ℕ) → bit_and (bit_xor a b) c ≡ bit_xor (bit_and a c) (bit_and b c)
and_xor =
    bin_ind (λ a. (b c : ℕ) → bit_and (bit_xor a b) c ≡ bit_xor (bit_and a c) (bit_and b c)) (λ b c. refl)
    (λ a ih b c. same_bits _ _ (simp (and-half, xor-half) (ih (b / 2) (c / 2)))
    (simp (and-bit, xor-bit) (three-bits (λ x y z. bit_and (bit_xor x y) z ≡ bit_xor (bit_and x z) (bit_and y z)) refl refl refl refl refl refl refl refl a b c)))
