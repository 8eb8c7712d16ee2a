-- `report::put_report` meets its contract: what the trace is told decides the text.
use native.Mathlib.Omega.{arith}
use Rattle.run.proofs.Loading.{load-loading}
use Rattle.digits.proofs.Buffer.{within-more}
use Rattle.report.proofs.Reports.{refused-text, requests-few, ran-text}
use Rattle.report.proofs.put_report.Goals as goal

pub name_requests-requires : goal.name_requests-requires
name_requests-requires c =
    omega (arith, requests-few (load-loading c.load.ensures c.in-Ok.is) (record { below = λ i. (c.type_inv.trace i).fits }))

pub returns-in-Err : goal.returns-in-Err
returns-in-Err c =
    let text = refused-text c.load.ensures c.in-Err.is c.into.ensures in
    rw text (within-more (omega arith) c.put_refused.ensures)

pub returns-in-Ok : goal.returns-in-Ok
returns-in-Ok c =
    let l = c.load.ensures in
    rw (ran-text l (load-loading l c.in-Ok.is) c.name_requests.ensures c.from_start.ensures) c.put_results.ensures
