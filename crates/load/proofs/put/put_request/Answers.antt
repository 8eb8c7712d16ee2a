-- `put_request` meets its contract: the path is made, and the request put into the machine.
use native.Mathlib.Omega.{arith}
use Rattle.load.proofs.put.put_request.Goals as goal

pub put_request-requires : goal.put_request-requires
put_request-requires c = let d = c.requires in
    (d.3, c.path_of-path.ensures.small, omega arith)

pub returns : goal.returns
returns c = record {
  path = c.path_of-path.result;
  path-is = c.path_of-path.ensures;
  becomes = rw (← c.number8.ensures, ← c.number8-2.ensures) c.put_request.ensures;
}
