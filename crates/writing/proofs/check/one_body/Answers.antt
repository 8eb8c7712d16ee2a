-- `one_body` meets its contract: the reader's finding, and what is known behind a body that is not refused.
use mathlib.Core.Path.{◌≡◌, sym}
use native.Mathlib.Omega.{arith}
use Rattle.trace.specs.Item.{request}
use Rattle.trace.specs.Refusals.{fault}
use Rattle.trace.specs.Inner.Known.{request_in}
use Rattle.trace.proofs.Table.{says-request}
use Rattle.trace.proofs.Ranges.{requests-few}
use Rattle.writing.proofs.check.one_body.Goals as goal

pub noted-requires : goal.noted-requires
noted-requires c = let may = c.requires.1 in let b = c.args.r.body.now in
    record {
      bodied = c.requires.0;
      at_low = may.at_low;
      -- a request that is not refused has room
      few = λ three.
          let said = says-request b three c.requires.0.right in
          let clean : fault may.before (request (request_in b)) ≡ 0 = rw said.is at (sym (c.in_ok-record_fault.ensures.is may.before may.known)) in
          omega (arith, requests-few may.before (request_in b) clean, may.known.requests-is);
      room = may.room;
    }
