-- `queue::Pairs::removed` meets its contract: both tags of the record go.
use native.Mathlib.Omega.{arith}
use Rattle.queue.proofs.Laws.{pairs-without}
use Rattle.queue.proofs.Pairs.removed.Goals as goal

pub returns : goal.returns
returns c =
    let l = c.args.self in
    let firsts = c.without_byte.ensures in
    let seconds = c.without_byte-2.ensures in
    (pairs-without l.firsts l.seconds l.len c.requires.i_lt_len firsts seconds, omega (arith, c.requires.held_pairs))
