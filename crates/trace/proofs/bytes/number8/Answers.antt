-- `number8` meets its contract: std's sum of the bytes is the number.
use mathlib.Core.Path.{◌≡◌, ◌∙◌}
use native.Mathlib.Nat.{add-sub_cancel_left}
use lib.ListN.{take, drop}
use Rattle.trace.proofs.Numbers.{number-read}
use Rattle.trace.proofs.bytes.number8.Goals as goal

pub returns : goal.returns
returns c = let s = c.args.s.now in
    let read = rw c.unwrap.ensures at c.try_into.ensures.1 in
    let is : c.unwrap.result ≡ take 8 (drop c.args.i s) = rw add-sub_cancel_left at read.same in
    c.from_le_bytes.ensures ∙ number-read 7 s c.args.i is
