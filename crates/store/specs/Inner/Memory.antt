-- What the array of words holds, by the names of `View`. Bytes of a queue beyond its length say nothing, and nothing is said twice.
use Rattle.std.specs.Prelude.{ℕ, ◌+◌, ◌*◌, ◌/◌, ◌%◌, ◌^◌, ◌<◌, ◌≡◌, ◌≢◌, Bool, true, false, List, [], ◌∷◌, eqb, ltb, length, get_or}
use Rattle.lists.specs.Choice.{choose, both}
use Rattle.lists.specs.Table.{list_below}
use Rattle.lists.specs.Inner.Pair.{Pair}
use Rattle.words.specs.Inner.Digits.{length_in, byte_in, bit_in}
use Rattle.operation.specs.declared.Words.{Words}
use Rattle.queue.specs.Inner.Queue.{tags_in, pairs_in}
use Rattle.view.specs.Inner.View.{Fixed, View}
use Rattle.store.specs.Inner.Layout.{size, at_k, at_q, at_w, at_count, at_every, at_answered, at_ordered, at_accesses, at_merges, at_rounds}
use Rattle.store.specs.Inner.Layout.{at_request_lengths, at_reply_lengths, at_wait_lengths}
use Rattle.store.specs.Inner.Layout.{at_order, at_requests, at_replies, at_firsts, at_seconds, at_heads, at_first_operands, at_second_operands}

-- ---- the regions, and how each is read
-- a word by itself
abbrev pub word_at : ℕ → List ℕ → ℕ
word_at from m = get_or m from 0

-- a word for each of 256 tags
abbrev pub column_at : ℕ → List ℕ → ℕ → ℕ
column_at from m t = choose (ltb t 256) (get_or m (from + t) 0) 0

-- a bit for each of 256 tags, 64 to a word
abbrev pub marks_at : ℕ → List ℕ → ℕ → Bool
marks_at from m t = choose (ltb t 256) (eqb (bit_in (get_or m (from + t / 64) 0) (t % 64)) 1) false

-- a byte for each of 256 places, eight to a word
abbrev pub bytes_at : ℕ → List ℕ → ℕ → ℕ
bytes_at from m i = choose (ltb i 256) (byte_in (get_or m (from + i / 8) 0) (i % 8)) 0

-- a word for each of sixteen positions of levels 0 to 4
abbrev pub grid_at : ℕ → List ℕ → ℕ → ℕ → ℕ
grid_at from m level position = get_or m (from + (level * 16 + position)) 0

-- a word for each of levels 0 to 4, with a length for each of sixteen positions
abbrev pub lengths_at : ℕ → List ℕ → ℕ → ℕ → ℕ
lengths_at from m level position = length_in (get_or m (from + level) 0) position

-- beyond the levels and positions there is nothing
unfoldable pub on_grid : {A : Type 0} → (ℕ → ℕ → List A) → ℕ → ℕ → List A
on_grid f level position = choose (both (ltb level 5) (ltb position 16)) (f level position) []

abbrev pub queues_at : ℕ → ℕ → List ℕ → ℕ → ℕ → List ℕ
queues_at lengths from m = on_grid (λ level position. tags_in (grid_at from m level position) (lengths_at lengths m level position))

-- at level 0 the engine's next request alone: there is one where the length is not 0
abbrev pub next_at : List ℕ → ℕ → List ℕ
next_at m e = choose (eqb (lengths_at at_request_lengths m 0 e) 0) [] (byte_in (grid_at at_requests m 0 e) 0 ∷ [])

abbrev pub requests_at : List ℕ → ℕ → ℕ → List ℕ
requests_at m =
    on_grid (λ level position. choose (eqb level 0) (next_at m position)
    (tags_in (grid_at at_requests m level position) (lengths_at at_request_lengths m level position)))

abbrev pub buffers_at : ℕ → ℕ → ℕ → List ℕ → ℕ → ℕ → List Pair
buffers_at lengths firsts seconds m =
    on_grid (λ level position. pairs_in (grid_at firsts m level position) (grid_at seconds m level position) (lengths_at lengths m level position))

-- ---- a head: the code in the lowest byte, then the address, the engine's next request in twenty bits, and the path
abbrev pub code_of : ℕ → ℕ
code_of head = head % 256

abbrev pub address_of : ℕ → ℕ
address_of head = head / 256 % 256

abbrev pub path_of : ℕ → ℕ
path_of head = head / 2 ^ 36

abbrev pub after_of : ℕ → ℕ
after_of head = head / 2 ^ 16 % 2 ^ 20

-- ---- all of it
unfoldable pub fixed_in : List ℕ → Fixed
fixed_in m = record {
  k = word_at at_k m;
  q = word_at at_q m;
  w = word_at at_w m;
  count = word_at at_count m;
  every = marks_at at_every m;
  address = λ t. address_of (column_at at_heads m t);
  path = λ t. path_of (column_at at_heads m t);
  after = λ t. after_of (column_at at_heads m t);
}

unfoldable pub carried_in : List ℕ → ℕ → Words
carried_in m t = record { code = code_of (column_at at_heads m t); first = column_at at_first_operands m t; second = column_at at_second_operands m t }

unfoldable pub order_in : List ℕ → List ℕ
order_in m = list_below (word_at at_ordered m) (bytes_at at_order m)

unfoldable pub view : List ℕ → View
view m = record {
  fixed = fixed_in m;
  carried = carried_in m;
  answered = marks_at at_answered m;
  requests = requests_at m;
  replies = queues_at at_reply_lengths at_replies m;
  waits = buffers_at at_wait_lengths at_firsts at_seconds m;
  order = order_in m;
  accesses = word_at at_accesses m;
  merges = word_at at_merges m;
  rounds = word_at at_rounds m;
}

-- ---- what the functions promise
-- the array has its size and holds that
pub record Becomes (m : List ℕ) (v : View) : Type 0 where
  pub sized : length m ≡ size
  pub holds : view m ≡ v

-- a length for each of sixteen positions: 0 where the queue there is empty, and only there
pub record RowOf {A : Type 0} (queues : ℕ → List A) (row : ℕ) : Type 0 where
  pub empty : (p : ℕ) → p < 16 → length_in row p ≡ 0 → queues p ≡ []
  pub full : (p : ℕ) → p < 16 → length_in row p ≢ 0 → queues p ≢ []

-- whether the marks of two kinds are the same
pub record Same (f g : ℕ → Bool) (r : Bool) : Type 0 where
  pub same : r ≡ true → (t : ℕ) → f t ≡ g t
  pub differ : r ≡ false → ¬ ((t : ℕ) → f t ≡ g t)
