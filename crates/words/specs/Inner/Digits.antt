-- Numbers of so many bits side by side in one word, the lowest first, and what is said of them.
use Rattle.std.specs.Prelude.{◌≡◌, ℕ, suc, ◌*◌, ◌/◌, ◌%◌, ◌^◌, ◌<◌, ◌≤◌, ◌≢◌, nat_lt, Option, Some, None}
use Rattle.lists.specs.Choice.{choose}

-- the number at each place: `bits` binary digits each
unfoldable pub digit : ℕ → ℕ → ℕ → ℕ
digit bits w p = w / 2 ^ (p * bits) % 2 ^ bits

-- sixteen lengths, four bits each
abbrev pub length_in : ℕ → ℕ → ℕ
length_in = digit 4

-- eight tags, a byte each
abbrev pub byte_in : ℕ → ℕ → ℕ
byte_in = digit 8

-- 64 marks
abbrev pub bit_in : ℕ → ℕ → ℕ
bit_in = digit 1

-- the lowest place whose length is not 0
pub record FirstBusy (w r : ℕ) : Type 0 where
  pub within : r < 16
  pub idle : (p : ℕ) → p < r → length_in w p ≡ 0
  pub busy : length_in w r ≢ 0

-- r has the lengths of w above a place, and none up to it: it is less than w where w has one there
pub record Above (w at r : ℕ) : Type 0 where
  pub gone : (p : ℕ) → p ≤ at → length_in r p ≡ 0
  pub kept : (p : ℕ) → at < p → length_in r p ≡ length_in w p
  pub less : length_in w at ≢ 0 → r < w

-- r is the lowest of k places at which w has the byte b; k where there is none
pub record PlaceOf (k w b r : ℕ) : Type 0 where
  pub within : r ≤ k
  pub below : (i : ℕ) → i < r → byte_in w i ≢ b
  pub found : r < k → byte_in w r ≡ b

-- that place, where there is one
abbrev pub Lowest : ℕ → ℕ → ℕ → Option ℕ → Type 0
Lowest k w b None = PlaceOf k w b k
Lowest k w b (Some r) = (r < k) × PlaceOf k w b r

-- r is w with one byte more, below all others; the highest of eight goes
pub record Pushed (w b r : ℕ) : Type 0 where
  pub lowest : byte_in r 0 ≡ b
  pub above : (i : ℕ) → i < 7 → byte_in r (suc i) ≡ byte_in w i

-- r has the bytes of w below a place, and b there
pub record Topped (w at b r : ℕ) : Type 0 where
  pub below : (i : ℕ) → i < at → byte_in r i ≡ byte_in w i
  pub highest : byte_in r at ≡ b

-- r is w without the byte at a place: those above it move down
pub record Without (w at r : ℕ) : Type 0 where
  pub below : (i : ℕ) → i < at → byte_in r i ≡ byte_in w i
  pub above : (i : ℕ) → at ≤ i → byte_in r i ≡ byte_in w (suc i)

-- the marks of w are at the lowest n places
pub record LowBits (n w : ℕ) : Type 0 where
  pub marks : (i : ℕ) → bit_in w i ≡ choose (nat_lt i n) 1 0
