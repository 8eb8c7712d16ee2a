-- Where each part of the machine stands in its array of words. The same names are constants in src/lib.rt.
use Rattle.std.specs.Prelude.{ℕ}

abbrev pub size : ℕ
size = 1152

-- the shape, the number of requests, and a bit for each of them
abbrev pub at_k : ℕ
at_k = 0

abbrev pub at_q : ℕ
at_q = 1

abbrev pub at_w : ℕ
at_w = 2

abbrev pub at_count : ℕ
at_count = 3

abbrev pub at_every : ℕ
at_every = 4

-- a bit for each request that is answered
abbrev pub at_answered : ℕ
at_answered = 8

-- how far the order list goes, and the counts of a run
abbrev pub at_ordered : ℕ
at_ordered = 12

abbrev pub at_accesses : ℕ
at_accesses = 13

abbrev pub at_merges : ℕ
at_merges = 14

abbrev pub at_rounds : ℕ
at_rounds = 15

-- lengths of request queues, reply queues and wait buffers: a word of sixteen for each of levels 0 to 4
abbrev pub at_request_lengths : ℕ
at_request_lengths = 16

abbrev pub at_reply_lengths : ℕ
at_reply_lengths = 21

abbrev pub at_wait_lengths : ℕ
at_wait_lengths = 26

-- the order list, eight tags to a word
abbrev pub at_order : ℕ
at_order = 32

-- queues, and first and second tags of wait buffers: a word for each of sixteen positions of levels 0 to 4
abbrev pub at_requests : ℕ
at_requests = 64

abbrev pub at_replies : ℕ
at_replies = 144

abbrev pub at_firsts : ℕ
at_firsts = 224

abbrev pub at_seconds : ℕ
at_seconds = 304

-- a word for each of 256 tags: code, address, path and the engine's next request; first operand or reply value; second operand
abbrev pub at_heads : ℕ
at_heads = 384

abbrev pub at_first_operands : ℕ
at_first_operands = 640

abbrev pub at_second_operands : ℕ
at_second_operands = 896
