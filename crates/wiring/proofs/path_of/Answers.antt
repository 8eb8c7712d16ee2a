-- `wiring::path_of` meets its contract. The loop's invariant: the word has the positions of the levels so far, and the route is shifted so far.
use Prim.Native.Nat.{◌+◌, ◌-◌, ◌*◌, ◌/◌}
use mathlib.Core.Path.{◌≡◌}
use native.Mathlib.Omega.{arith}
use Rattle.wiring.specs.Wiring.{module_of}
use Rattle.wiring.proofs.Paths.{From, from_next, from_all}
use Rattle.wiring.proofs.path_of.Goals as goal
use Rattle.wiring.proofs.path_of.Goals.{After-module_of-in-loop}

-- the next level's position comes in
next : (c : After-module_of-in-loop) → From c.args.k c.args.engine (module_of c.args.k c.args.address) (c.args.k + 1 - (c.loop.counter + 1))
    (c.loop.route / 2) (c.loop.path * 16 + c.module_of-in-loop.result)
next c =
    let left : c.args.k + 1 - c.loop.counter - 1 ≡ c.args.k + 1 - (c.loop.counter + 1) = omega arith in
    rw (c.module_of-in-loop.ensures.0, ← left) (from_next c.requires.0 c.loop.invariant (omega arith))

pub loop-preserved : goal.loop-preserved
loop-preserved c = next (goal.at.loop-preserved c).After-module_of-in-loop

pub returns-2 : goal.returns-2
returns-2 c = from_all c.requires.0 (next (goal.at.returns-2 c).After-module_of-in-loop) (omega arith)
