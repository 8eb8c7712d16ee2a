-- The records of a trace as items: document 01, "Trace records".
use Rattle.std.specs.Prelude.{ℕ}
use Rattle.event.specs.Event.{Act}

-- "shape: k, Q, W"
pub record Shape : Type 0 where
  pub k : ℕ
  pub q : ℕ
  pub w : ℕ

-- "word: address, value"
pub record Word : Type 0 where
  pub address : ℕ
  pub value : ℕ

-- "request: engine, operation, address, first operand, second operand"
pub record Request : Type 0 where
  pub engine : ℕ
  pub operation : ℕ
  pub address : ℕ
  pub first : ℕ
  pub second : ℕ

-- "one shape; words; requests; events and drains mixed"
pub data Item : Type 0 where
  shape : Shape → Item
  word : Word → Item
  request : Request → Item
  act : Act → Item

-- items in the order of the trace; the last one stands outermost
pub data Items : Type 0 where
  none : Items
  after : Items → Item → Items
