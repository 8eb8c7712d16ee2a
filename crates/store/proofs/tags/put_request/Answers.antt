-- `put_request` meets its contract: a new head and two operands.
use native.Mathlib.Omega.{arith}
use Rattle.store.proofs.Tagged.{request-put}
use Rattle.store.proofs.tags.put_request.Goals as goal

pub returns : goal.returns
returns c = request-put c.args.m.now c.told-m c.args.t c.requires.0 c.args.address c.args.path c.args.asked c.requires.2 (omega arith)
