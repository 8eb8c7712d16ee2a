-- Octets under way, as definitions and statements: document 02, No. 2. "Accounting polls a counter while adds are in the network": this is what
-- it may believe of what it reads.
use Rattle.std.specs.Prelude.{ℕ, suc, ◌+◌, ◌<◌, ◌≡◌, Bool, true, false, eqb}
use Rattle.lists.specs.Choice.{choose}
use Rattle.lists.specs.Count.{total, total_below}
use Rattle.operation.specs.Operation.{cut}
use Rattle.operation.specs.declared.Operation.{Operation}
use Rattle.operation.specs.declared.Operation.TheVariants.{Load, Swap, Add, Mask}
use Rattle.machine.specs.Setup.{Setup, Message}
use Rattle.machine.specs.State.{State, asked}
use Rattle.machine.specs.Order.{requested, times}

-- ---- what a counter is, over any words and operations
pub record Counter (Word Operation : Type 0) : Type 0 where
  -- the number that a word holds, and what a word keeps of a true sum
  pub number : Word → ℕ
  pub cut : ℕ → ℕ
  -- "loads and adds only": whether an operation is one of the two
  pub is_load_or_add : Operation → Bool
  -- "add operands": what an add adds; anything else has none
  pub operand : Operation → ℕ

-- document 01's counter: a word is its number, sums are "modulo 2^64"
unfoldable pub load_or_add : Operation → Bool
load_or_add Load = true
load_or_add (Swap v) = false
load_or_add (Add a) = true
load_or_add (Mask a b) = false

unfoldable pub add_operand : Operation → ℕ
add_operand Load = 0
add_operand (Swap v) = 0
add_operand (Add a) = a
add_operand (Mask a b) = 0

abbrev pub octet_counter : Counter ℕ Operation
octet_counter = record { number = λ x. x; cut = cut; is_load_or_add = load_or_add; operand = add_operand }

module _ (S : Setup) (C : Counter S.Word S.Operation) where
  open S use {Word, k, N, R, engine_of, address_of, operation_of}
  open C use {number, cut, is_load_or_add, operand}

  -- "loads and adds only", of one address: all requests for it are loads or adds, whatever other addresses get
  abbrev pub LoadsAndAdds : ℕ → Type 0
  LoadsAndAdds a = (t : ℕ) → t < R → address_of t ≡ a → is_load_or_add (operation_of t) ≡ true

  -- ---- octets under way
  -- what a message brings to the address a: the operand that it then carries, if it is for a
  abbrev pub octets_in : ℕ → Message S → ℕ
  octets_in a m = choose (eqb m.address a) (operand m.operation) 0

  -- "the add operands in request messages for it": in the request queues of levels 1 to k. What stands at level 0 is not issued.
  unfoldable pub octets_under_way : State S → ℕ → ℕ
  octets_under_way st a = total_below k (λ s. total_below N (λ p. total (octets_in a) (st.requests (suc s) p)))

  -- ---- octets issued
  -- the issue step of the request t has happened: it is no longer among the unissued of its engine
  abbrev pub is_issued : State S → ℕ → Bool
  is_issued st t = eqb (times S st t (requested 0 (engine_of t))) 0

  -- "the operands of all adds issued there"
  unfoldable pub octets_issued : State S → ℕ → ℕ
  octets_issued st a = total_below R (λ t. choose (is_issued st t) (octets_in a (asked S t)) 0)

  -- the operands of all adds to it that the trace has
  unfoldable pub octets_asked : ℕ → ℕ
  octets_asked a = total_below R (λ t. octets_in a (asked S t))

  -- ---- what holds of a state, from the starting words
  -- "its word plus the add operands in request messages for it equals the starting word plus the operands of all adds issued there, modulo
  -- 2^64": each side a true sum, then cut
  abbrev pub Accounted : (ℕ → Word) → ℕ → State S → Type 0
  Accounted words a st = cut (number (st.words a) + octets_under_way st a) ≡ cut (number (words a) + octets_issued st a)

  -- where none is unanswered: its word is the starting word plus all adds to it
  abbrev pub Settled : (ℕ → Word) → ℕ → State S → Type 0
  Settled words a st = number (st.words a) ≡ cut (number (words a) + octets_asked a)
