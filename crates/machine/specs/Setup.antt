-- What the machine is built over: words and operations, a path for each request, the rooms, and the requests of a trace.
-- Every definition and every theorem of this crate holds for any such setup; Omega.antt gives document 01's.
use Rattle.std.specs.Prelude.{ℕ, Option}

pub record Setup : Type 1 where
  -- what a word holds; what a request does to it, "store f(old)"
  pub Word : Type 0
  pub Operation : Type 0
  pub apply : Operation → Word → Word
  -- "Merging f, then g": the merged operation, or none where the two kinds do not merge
  pub merge : Operation → Operation → Option Operation
  -- "Level 0 is the engine, level k the module"; N positions at each level
  pub k : ℕ
  pub N : ℕ
  -- "queue room Q", "wait room W"
  pub Q : ℕ
  pub W : ℕ
  -- "Requests R 0 to 256. The tag of a request is its place in the trace, from 0": of each tag its engine, address and operation
  pub R : ℕ
  pub engine_of : ℕ → ℕ
  pub address_of : ℕ → ℕ
  pub operation_of : ℕ → Operation
  -- "The path of engine e to module m is, at level s from 0 to k, at position ..": by engine, address and level
  pub position : ℕ → ℕ → ℕ → ℕ

module _ (S : Setup) where
  open S use {Word, Operation, engine_of, address_of, position}

  -- the position, at a level, of the path of the request t
  abbrev pub place : ℕ → ℕ → ℕ
  place t s = position (engine_of t) (address_of t) s

  -- "A request message holds a tag, an address and an operation"
  pub record Message : Type 0 where
    pub tag : ℕ
    pub address : ℕ
    pub operation : Operation

  -- "A wait record holds the first tag, the second tag, and the first's operation as it was before that merge"
  pub record WaitRecord : Type 0 where
    pub first : ℕ
    pub second : ℕ
    pub operation : Operation

  -- "a reply holds a tag and a value"
  pub record Reply : Type 0 where
    pub tag : ℕ
    pub value : Word
