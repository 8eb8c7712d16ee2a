-- `read_all`: each read adds to what was read.
use Rattle.std.proofs.Common.{rules}
use Rattle.input.proofs.Grown.{read-more, read-none}
use Rattle.input.proofs.read_all.Goals as goal
use Rattle.input.proofs.read_all.Goals.{in-Ok, in-Err}

pub loop-preserved : goal.loop-preserved
loop-preserved g c =
    let within = c.loop.invariant.0 in
    let before = c.loop.invariant.2 in
    elim c.match-read.branch [
      | in-Ok w ↦ rw w.got-is (search rules, search rules, read-more _ _ _ _ _ _ _ within before _ w.in-Ok.ensures.bound.0 w.in-Ok.ensures.bytes.0)
      | in-Err w ↦ rw w.got-is (search rules, search rules, read-none _ _ _ _ _ _ _ within before w.in-Err.ensures.bytes)
    ]
