-- The four operations, what two of them become where they merge, and their codes and operands: document 01, "Operations".
use Rattle.std.specs.Prelude.{ℕ, ◌+◌, ◌%◌, ◌^◌, Bool, ◌==◌, bit_and, bit_xor, nat_lt, Option, Some, None}
use Rattle.lists.specs.Choice.{choose, both}
use Rattle.operation.specs.declared.Operation.{Operation}
use Rattle.operation.specs.declared.Operation.TheVariants.{Load, Swap, Add, Mask}
use Rattle.operation.specs.declared.Words.{Words}

-- "modulo 2^64": what a word keeps of a number
unfoldable pub cut : ℕ → ℕ
cut n = n % 2 ^ 64

-- "x + first, modulo 2^64": the add, in application to a word and in merging
unfoldable pub sum : ℕ → ℕ → ℕ
sum x y = cut (x + y)

-- "load: f(x) = x"; "swap: f(x) = first"; "add: f(x) = x + first, modulo 2^64"; "mask: f(x) = (x and first) xor second, bit by bit"
unfoldable pub applied : Operation → ℕ → ℕ
applied Load x = x
applied (Swap v) x = v
applied (Add a) x = sum x a
applied (Mask a b) x = bit_xor (bit_and x a) b

-- "load then g is g; f then load is f"; "anything then swap v is swap v"; "swap v then g is swap of g(v)"; "add a then add b is add of a + b modulo 2^64";
-- "mask (a, b) then mask (c, d) is mask (a and c, (b and c) xor d)"; "add then mask, and mask then add, do not merge"
unfoldable pub merged : Operation → Operation → Option Operation
merged Load g = Some g
merged (Swap v) g = Some (Swap (applied g v))
merged (Add a) Load = Some (Add a)
merged (Add a) (Swap v) = Some (Swap v)
merged (Add a) (Add b) = Some (Add (sum a b))
merged (Add a) (Mask c d) = None
merged (Mask a b) Load = Some (Mask a b)
merged (Mask a b) (Swap v) = Some (Swap v)
merged (Mask a b) (Add c) = None
merged (Mask a b) (Mask c d) = Some (Mask (bit_and a c) (bit_xor (bit_and b c) d))

-- "0 load", "1 swap: f(x) = first", "2 add: f(x) = x + first", "3 mask: f(x) = (x and first) xor second"
unfoldable pub operation_of : ℕ → ℕ → ℕ → Operation
operation_of code first second =
    choose (code == 0) Load
    (choose (code == 1) (Swap first)
    (choose (code == 2) (Add first) (Mask first second)))

-- "0 load", "1 swap", "2 add", "3 mask"
unfoldable pub code_of : Operation → ℕ
code_of Load = 0
code_of (Swap v) = 1
code_of (Add a) = 2
code_of (Mask a b) = 3

-- load has "both operands zero"
unfoldable pub first_operand : Operation → ℕ
first_operand Load = 0
first_operand (Swap v) = v
first_operand (Add a) = a
first_operand (Mask a b) = a

-- swap and add have "second operand zero"
unfoldable pub second_operand : Operation → ℕ
second_operand Load = 0
second_operand (Swap v) = 0
second_operand (Add a) = 0
second_operand (Mask a b) = b

-- "operation 1, .., first operand 8, second operand 8", as a request record gives them
abbrev pub words_of : Operation → Words
words_of f = record { code = code_of f; first = first_operand f; second = second_operand f }

-- 7 is told of "operation above 3, or an operand that must be zero is not": both of load, the second of swap and of add
unfoldable pub operands_fit : ℕ → ℕ → ℕ → Bool
operands_fit code first second =
    choose (code == 0) (both (first == 0) (second == 0))
    (choose (nat_lt code 3) (second == 0)
    (code == 3))
