-- `requests_from` meets its contract: request by request, as far as none is refused.
use Prim.Native.Nat.{◌+◌, ◌*◌}
use mathlib.Core.Path.{◌≡◌, sym, ◌∙◌}
use native.Mathlib.Omega.{arith}
use lib.ListN.{length}
use Rattle.trace.specs.Inner.Known.{request_in}
use Rattle.trace.proofs.Records.{body-size}
use Rattle.trace.proofs.Ranges.{request_fault, request-right}
use Rattle.load.proofs.Requests.{clean-found, requests-start, requests-one-more}
use Rattle.load.proofs.turn.requests_from.Goals as goal

pub loop-p-init : goal.loop-p-init
loop-p-init c = requests-start _ _ _ c.requires.0 c.told-m

pub overflow_mul-at : goal.overflow_mul-at
overflow_mul-at c = omega (arith, c.loop-p.invariant.inside, c.requires.1)

pub overflow_add-at : goal.overflow_add-at
overflow_add-at c = omega (arith, c.loop-p.invariant.inside, c.requires.1)

pub overflow_sub-s : goal.overflow_sub-s
overflow_sub-s c = omega (arith, c.loop-p.invariant.inside)

pub returns-then-s-at-lt-REQUEST_SIZE : goal.returns-then-s-at-lt-REQUEST_SIZE
returns-then-s-at-lt-REQUEST_SIZE c = c.loop-p.invariant

pub number4-requires : goal.number4-requires
number4-requires c = omega (arith, c.if-s-at-lt-REQUEST_SIZE.false, c.loop-p.invariant.inside)

pub returns-then-number4-ne-REQUEST_HEADER : goal.returns-then-number4-ne-REQUEST_HEADER
returns-then-number4-ne-REQUEST_HEADER c = c.loop-p.invariant

pub body-b-requires : goal.body-b-requires
body-b-requires c = omega (arith, c.if-s-at-lt-REQUEST_SIZE.false, c.loop-p.invariant.inside)

pub overflow_add-t : goal.overflow_add-t
overflow_add-t c = omega (arith, c.loop-p.invariant.inside, c.requires.1, c.requires.3)

pub request_fault-requires : goal.request_fault-requires
request_fault-requires c =
    let long : length c.body-b.result.now ≡ 19 = let a = c.args in
    body-size a.s.now (a.p.at + 23 * c.loop-p.n) 19 c.body-b.ensures (omega (arith, c.if-s-at-lt-REQUEST_SIZE.false, c.loop-p.invariant.inside)) in (long, c.requires.2)

pub put_request-requires : goal.put_request-requires
put_request-requires c =
    let long : length c.body-b.result.now ≡ 19 = let a = c.args in
    body-size a.s.now (a.p.at + 23 * c.loop-p.n) 19 c.body-b.ensures (omega (arith, c.if-s-at-lt-REQUEST_SIZE.false, c.loop-p.invariant.inside)) in
    let clean : let a = c.args in
    request_fault a.p.facts.k (a.p.facts.requests + c.loop-p.n) (request_in c.body-b.result.now) ≡ 0 = sym c.request_fault.ensures ∙ clean-found _ (sym c.is_err.ensures.value ∙ c.if-is_err.false) in let a = c.args in
    let right = request-right a.p.facts.k (a.p.facts.requests + c.loop-p.n) (request_in c.body-b.result.now) clean in
    (long, c.requires.2, right.1, right.0)

pub overflow_add-n : goal.overflow_add-n
overflow_add-n c =
    omega (arith, c.loop-p.invariant.inside, c.requires.1)

pub loop-p-smaller : goal.loop-p-smaller
loop-p-smaller c =
    omega (arith, c.if-s-at-lt-REQUEST_SIZE.false, c.loop-p.invariant.inside)

pub loop-p-preserved : goal.loop-p-preserved
loop-p-preserved c =
    let clean : let a = c.args in
    request_fault a.p.facts.k (a.p.facts.requests + c.loop-p.n) (request_in c.body-b.result.now) ≡ 0 = sym c.request_fault.ensures ∙ clean-found _ (sym c.is_err.ensures.value ∙ c.if-is_err.false) in requests-one-more (record { below = λ j. (c.type_inv.s j).fits }) c.loop-p.invariant
    (omega (arith, c.if-s-at-lt-REQUEST_SIZE.false, c.loop-p.invariant.inside))
    (sym c.number4.ensures.0 ∙ c.if-number4-ne-REQUEST_HEADER.false) c.body-b.ensures clean c.put_request.ensures

pub returns-then-is_err : goal.returns-then-is_err
returns-then-is_err c = c.loop-p.invariant
