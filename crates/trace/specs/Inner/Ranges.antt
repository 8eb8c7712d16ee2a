-- What holds of the contents of every accepted trace: document 01, "Sizes", and each field within its bytes.
use Rattle.std.specs.Prelude.{ℕ, ◌≤◌, ◌<◌, ◌^◌, ◌≡◌, true, length}
use Rattle.lists.specs.Search.{All}
use Rattle.operation.specs.Operation.{operands_fit}
use Rattle.event.specs.Event.{Event, Act, names_step}
use Rattle.trace.specs.Item.{Shape, Word, Request, Items}
use Rattle.trace.specs.Contents.{shape_of, words_given, requests_of, acts_of}

-- each field fits its bytes
pub record WordBytes (w : Word) : Type 0 where
  pub address-low : w.address < 256
  pub value_low : w.value < 2 ^ 64

pub record RequestBytes (r : Request) : Type 0 where
  pub engine-low : r.engine < 256
  pub operation-low : r.operation < 256
  pub address-low : r.address < 256
  pub first-low : r.first < 2 ^ 64
  pub second-low : r.second < 2 ^ 64

pub record EventBytes (e : Event) : Type 0 where
  pub what-low : e.what < 256
  pub level-low : e.level < 256
  pub position-low : e.position < 256

-- "k 1 to 4; queue room Q 1 to 4; wait room W 0 to 8"
pub record ShapeIn (s : Shape) : Type 0 where
  pub k-least : 1 ≤ s.k
  pub k-most : s.k ≤ 4
  pub q-least : 1 ≤ s.q
  pub q-most : s.q ≤ 4
  pub w-most : s.w ≤ 8

-- "engine not below N, operation above 3, or an operand that must be zero is not" does not hold
pub record RequestIn (k : ℕ) (r : Request) : Type 0 where
  pub fits : RequestBytes r
  pub engine-below : r.engine < 2 ^ k
  pub operands : operands_fit r.operation r.first r.second ≡ true

-- "an event names no step above" does not hold
pub record EventIn (k : ℕ) (e : Event) : Type 0 where
  pub fits : EventBytes e
  pub names : names_step k e ≡ true

-- an event or a drain
abbrev pub ActIn : ℕ → Act → Type 0
ActIn k (Act.event e) = EventIn k e
ActIn k (Act.drain rounds) = rounds < 65536

-- all of it; "Requests R 0 to 256"
pub record InRange (xs : Items) : Type 0 where
  pub shape-in : ShapeIn (shape_of xs)
  pub words-in : All WordBytes (words_given xs)
  pub requests-few : length (requests_of xs) ≤ 256
  pub requests-in : All (RequestIn (shape_of xs).k) (requests_of xs)
  pub acts-in : All (ActIn (shape_of xs).k) (acts_of xs)
