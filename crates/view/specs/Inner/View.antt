-- What the machine in code holds, by name, and each change that the code makes to it. Nothing here says how it is kept: `store` does.
use Rattle.std.specs.Prelude.{ℕ, suc, Bool, true, false, List, [], ◌∷◌, ◌++◌, ltb}
use Rattle.lists.specs.Table.{update, update2}
use Rattle.lists.specs.Inner.Pair.{Pair}
use Rattle.operation.specs.Operation.{operation_of}
use Rattle.operation.specs.declared.Operation.{Operation}
use Rattle.operation.specs.declared.Words.{Words}

-- What no step changes: the shape, the number of requests and a mark for each of them; of each tag its address, the path of its
-- request, and the engine's next request (or the number of requests).
pub record Fixed : Type 0 where
  pub k : ℕ
  pub q : ℕ
  pub w : ℕ
  pub count : ℕ
  pub every : ℕ → Bool
  pub address : ℕ → ℕ
  pub path : ℕ → ℕ
  pub after : ℕ → ℕ

-- Queues and wait buffers are by level and position, oldest first; at level 0 a request queue has the engine's next unissued request
-- alone. "A wait record holds the first tag, the second tag": a pair, whose operation is the one that the second tag carries. A request is
-- in one place at a time, so what a message, a wait record, a reply or an answer carries stands by tag: the operation's code and operands,
-- or the value as the first of them.
pub record View : Type 0 where
  pub fixed : Fixed
  pub carried : ℕ → Words
  pub answered : ℕ → Bool
  pub requests : ℕ → ℕ → List ℕ
  pub replies : ℕ → ℕ → List ℕ
  pub waits : ℕ → ℕ → List Pair
  pub order : List ℕ
  pub accesses : ℕ
  pub merges : ℕ
  pub rounds : ℕ

-- the operation that a tag carries; what it carries once it is answered with a value
abbrev pub operation_in : Words → Operation
operation_in c = operation_of c.code c.first c.second

abbrev pub valued : Words → ℕ → Words
valued c value = record { code = c.code; first = value; second = c.second }

-- ---- the changes
-- another shape, or other requests
abbrev pub with_fixed : View → Fixed → View
with_fixed v f = record {
  fixed = f;
  carried = v.carried;
  answered = v.answered;
  requests = v.requests;
  replies = v.replies;
  waits = v.waits;
  order = v.order;
  accesses = v.accesses;
  merges = v.merges;
  rounds = v.rounds;
}

-- other queues and wait buffers, with what their tags carry and how many merged
abbrev pub filled : View → (ℕ → ℕ → List ℕ) → (ℕ → ℕ → List Pair) → (ℕ → Words) → ℕ → View
filled v requests waits carried merges = record {
  fixed = v.fixed;
  carried = carried;
  answered = v.answered;
  requests = requests;
  replies = v.replies;
  waits = waits;
  order = v.order;
  accesses = v.accesses;
  merges = merges;
  rounds = v.rounds;
}

-- another order list, and other counts of accesses and rounds
abbrev pub counted : View → List ℕ → ℕ → ℕ → View
counted v order accesses rounds = record {
  fixed = v.fixed;
  carried = v.carried;
  answered = v.answered;
  requests = v.requests;
  replies = v.replies;
  waits = v.waits;
  order = order;
  accesses = accesses;
  merges = v.merges;
  rounds = rounds;
}

-- another table of what the tags carry
abbrev pub carrying : View → (ℕ → Words) → View
carrying v carried = filled v v.requests v.waits carried v.merges

-- what the tag t carries
abbrev pub with_carried : View → ℕ → Words → View
with_carried v t x = carrying v (update v.carried t x)

-- the request t is answered, with the value that it carries
abbrev pub with_answer : View → ℕ → View
with_answer v t = record {
  fixed = v.fixed;
  carried = v.carried;
  answered = update v.answered t true;
  requests = v.requests;
  replies = v.replies;
  waits = v.waits;
  order = v.order;
  accesses = v.accesses;
  merges = v.merges;
  rounds = v.rounds;
}

-- a request queue
abbrev pub with_requests : View → ℕ → ℕ → List ℕ → View
with_requests v s p l = filled v (update2 v.requests s p l) v.waits v.carried v.merges

-- a reply queue
abbrev pub with_replies : View → ℕ → ℕ → List ℕ → View
with_replies v s p l = record {
  fixed = v.fixed;
  carried = v.carried;
  answered = v.answered;
  requests = v.requests;
  replies = update2 v.replies s p l;
  waits = v.waits;
  order = v.order;
  accesses = v.accesses;
  merges = v.merges;
  rounds = v.rounds;
}

-- one more reply, the youngest of its queue
abbrev pub with_reply : View → ℕ → ℕ → ℕ → View
with_reply v s p t = with_replies v s p (v.replies s p ++ (t ∷ []))

-- a wait buffer
abbrev pub with_waits : View → ℕ → ℕ → List Pair → View
with_waits v s p l = filled v v.requests (update2 v.waits s p l) v.carried v.merges

-- the order list, longer by l
abbrev pub with_order : View → List ℕ → View
with_order v l = counted v (v.order ++ l) v.accesses v.rounds

-- one module access more
abbrev pub with_access : View → View
with_access v = counted v v.order (suc v.accesses) v.rounds

-- one merge more
abbrev pub with_merge : View → View
with_merge v = filled v v.requests v.waits v.carried (suc v.merges)

-- one round more
abbrev pub with_round : View → View
with_round v = counted v v.order v.accesses (suc v.rounds)

-- the shape and the number of requests
abbrev pub shaped : Fixed → ℕ → ℕ → ℕ → ℕ → Fixed
shaped f k q w count = record {
  k = k;
  q = q;
  w = w;
  count = count;
  every = λ t. ltb t count;
  address = f.address;
  path = f.path;
  after = f.after;
}

-- other addresses, paths and next requests
abbrev pub with_tags : Fixed → (ℕ → ℕ) → (ℕ → ℕ) → (ℕ → ℕ) → Fixed
with_tags f address path after = record {
  k = f.k;
  q = f.q;
  w = f.w;
  count = f.count;
  every = f.every;
  address = address;
  path = path;
  after = after;
}

-- the engine's next request after t
abbrev pub linked : Fixed → ℕ → ℕ → Fixed
linked f t n = with_tags f f.address f.path (update f.after t n)

-- the request t as it is loaded: its address and path, with none after it yet
abbrev pub placed : Fixed → ℕ → ℕ → ℕ → Fixed
placed f t address path = with_tags f (update f.address t address) (update f.path t path) (update f.after t 0)

abbrev pub with_request : View → ℕ → ℕ → ℕ → Words → View
with_request v t address path x = with_carried (with_fixed v (placed v.fixed t address path)) t x

-- ---- where nothing is loaded
abbrev pub no_words : Words
no_words = record { code = 0; first = 0; second = 0 }

abbrev pub unfixed : Fixed
unfixed = record {
  k = 0;
  q = 0;
  w = 0;
  count = 0;
  every = λ t. false;
  address = λ t. 0;
  path = λ t. 0;
  after = λ t. 0;
}

abbrev pub blank : View
blank = record {
  fixed = unfixed;
  carried = λ t. no_words;
  answered = λ t. false;
  requests = λ s p. [];
  replies = λ s p. [];
  waits = λ s p. [];
  order = [];
  accesses = 0;
  merges = 0;
  rounds = 0;
}
