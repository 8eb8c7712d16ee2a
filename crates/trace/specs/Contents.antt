-- What items say together: the shape, the words, the requests and the acts, and the memory that follows from them.
use Rattle.std.specs.Prelude.{ℕ, ◌+◌, Bool, List, [], ◌∷◌, ◌++◌, set, replicate, get_or, eqb, ltb}
use Rattle.lists.specs.Choice.{choose}
use Rattle.lists.specs.Search.{some}
use Rattle.event.specs.Event.{Act}
use Rattle.trace.specs.Item.{Shape, Word, Request, Item, shape, word, request, act, Items, none, after}
use Rattle.trace.specs.Table.{section, record_size}

-- each list in the order of the trace; the shape is zeros before there is one
pub record Contents : Type 0 where
  pub shape : Shape
  pub words : List Word
  pub requests : List Request
  pub acts : List Act

-- an item adds to one of them
unfoldable pub add : Contents → Item → Contents
add c (shape s) = record { shape = s; words = c.words; requests = c.requests; acts = c.acts }
add c (word w) = record { shape = c.shape; words = c.words ++ (w ∷ []); requests = c.requests; acts = c.acts }
add c (request r) = record { shape = c.shape; words = c.words; requests = c.requests ++ (r ∷ []); acts = c.acts }
add c (act a) = record { shape = c.shape; words = c.words; requests = c.requests; acts = c.acts ++ (a ∷ []) }

-- what the items up to the last say
unfoldable pub contents : Items → Contents
contents none = record { shape = record { k = 0; q = 0; w = 0 }; words = []; requests = []; acts = [] }
contents (after before x) = add (contents before) x

-- "one shape; words; requests; events and drains mixed", each by itself
abbrev pub shape_of : Items → Shape
shape_of xs = (contents xs).shape

abbrev pub words_given : Items → List Word
words_given xs = (contents xs).words

abbrev pub requests_of : Items → List Request
requests_of xs = (contents xs).requests

abbrev pub acts_of : Items → List Act
acts_of xs = (contents xs).acts

-- the request of a tag; what is no tag of the trace is a load of engine 0 at word 0, which nothing asks about
abbrev pub no_request : Request
no_request = record { engine = 0; operation = 0; address = 0; first = 0; second = 0 }

abbrev pub request_at : List Request → ℕ → Request
request_at requests t = get_or requests t no_request

-- "a word address given": one of the words has address a
abbrev pub given : List Word → ℕ → Bool
given ws a = some (λ w. eqb w.address a) ws

-- a memory after word records: "address, value"
unfoldable pub put_words : List ℕ → List Word → List ℕ
put_words memory [] = memory
put_words memory (w ∷ ws) = put_words (set memory w.address w.value) ws

-- "A word without a record starts at zero": 256 zeros, then each word record
unfoldable pub start_words : List Word → List ℕ
start_words ws = put_words (replicate 256 0) ws

-- the section of the last item, 0 before the first
unfoldable pub last_section : Items → ℕ
last_section none = 0
last_section (after before x) = section x

-- the offset of the first act: how many bytes the items of the other sections have
unfoldable pub acts_offset : Items → ℕ
acts_offset none = 0
acts_offset (after before x) = choose (ltb (section x) 4) (acts_offset before + record_size x) (acts_offset before)
