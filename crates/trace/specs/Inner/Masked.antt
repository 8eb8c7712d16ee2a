-- Eight bytes that begin with an event's record: its length 3 and its kind 4, in two bytes each; what, level, position. The eighth byte is
-- the next record's. How the code tells them at once. Nothing here has to be believed: no contract of a public function names it.
use Rattle.std.specs.Prelude.{ℕ, ◌+◌, ◌*◌, ◌/◌, ◌%◌, ◌^◌, ◌≤◌, ◌<◌, ◌≡◌, Bool, eqb, ltb}
use Rattle.std.specs.Int.Bits.{bit_and}
use Rattle.lists.specs.Choice.{both}
use Rattle.words.specs.Inner.Digits.{byte_in}
use Rattle.event.specs.Event.{Event, level_fits, names_step}

unfoldable pub header_fits : ℕ → Bool
header_fits w = both (eqb (byte_in w 0) 3) (both (eqb (byte_in w 1) 0) (both (eqb (byte_in w 2) 4) (eqb (byte_in w 3) 0)))

abbrev pub event_bytes : ℕ → Event
event_bytes w = record { what = byte_in w 4; level = byte_in w 5; position = byte_in w 6 }

-- an event that names a step of a network of 2^k engines
unfoldable pub is_event : ℕ → ℕ → Bool
is_event k w = both (header_fits w) (names_step k (event_bytes w))

-- what a mask of a word's bits tells: the header, a what and a level below 8, and a position below 2^k
unfoldable pub mask_tells : ℕ → ℕ → Bool
mask_tells k w = both (header_fits w) (both (ltb (byte_in w 4) 8) (both (ltb (byte_in w 5) 8) (ltb (byte_in w 6) (2 ^ k))))

pub record Mask (k fixed : ℕ) : Type 0 where
  pub tells : (w : ℕ) → eqb (bit_and w fixed) (3 + 65536 * 4) ≡ mask_tells k w

-- a set of steps: bit 8 * level + what is 1 where the pair names one
pub record Steps (k named : ℕ) : Type 0 where
  pub tells : (what level : ℕ) → what < 8 → level < 8 → eqb (named / 2 ^ (8 * level + what) % 2) 1 ≡ level_fits k what level

pub record TellsEvent (w fixed named : ℕ) (r : Bool) : Type 0 where
  pub tells : (k : ℕ) → k ≤ 4 → Mask k fixed → Steps k named → r ≡ is_event k w
