-- A queue of tags and a wait buffer by value: what they hold, and where something is found in them.
use Rattle.std.specs.Prelude.{ℕ, suc, ◌≤◌, List, get_or, take, drop, Option, Some, None}
use Rattle.lists.specs.Table.{list_below, down_from}
use Rattle.lists.specs.Search.{Found, absent, found}
use Rattle.lists.specs.Inner.Pair.{Pair}
use Rattle.words.specs.Inner.Digits.{byte_in}
use Rattle.queue.specs.declared.Tags.{Tags}
use Rattle.queue.specs.declared.Pairs.{Pairs}

-- a word's tags, the youngest in the lowest byte, written oldest first
abbrev pub tags_in : ℕ → ℕ → List ℕ
tags_in word n = down_from n (byte_in word)

-- a wait record's two tags, in the bytes of one place
abbrev pub pair_in : ℕ → ℕ → ℕ → Pair
pair_in firsts seconds i = record { first = byte_in firsts i; second = byte_in seconds i }

-- two words' pairs of tags, the oldest in the lowest bytes
abbrev pub pairs_in : ℕ → ℕ → ℕ → List Pair
pairs_in firsts seconds n = list_below n (pair_in firsts seconds)

abbrev pub tags_of : Tags → List ℕ
tags_of l = tags_in l.items l.len

abbrev pub pairs_of : Pairs → List Pair
pairs_of l = pairs_in l.firsts l.seconds l.len

-- "queue room Q 1 to 4", "wait room W 0 to 8": a word has eight bytes
abbrev pub HeldTags : Tags → Type 0
HeldTags l = l.len ≤ 8

abbrev pub HeldPairs : Pairs → Type 0
HeldPairs l = l.len ≤ 8

-- what stands past a list's end
abbrev pub no_pair : Pair
no_pair = record { first = 0; second = 0 }

-- the record at a place, with those before it and those behind it
abbrev pub found_at : List Pair → Option ℕ → Found Pair
found_at l None = absent
found_at l (Some i) = found (take i l) (get_or l i no_pair) (drop (suc i) l)
