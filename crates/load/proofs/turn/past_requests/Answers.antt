-- `past_requests` meets its contract: past a run of requests, or nowhere.
use native.Mathlib.Omega.{arith}
use Rattle.load.proofs.Requests.{requests-onward, no-requests}
use Rattle.load.proofs.turn.past_requests.Goals as goal

pub requests_from-n-requires : goal.requests_from-n-requires
requests_from-n-requires c = c.requires.at_in_bounds

pub overflow_mul-p : goal.overflow_mul-p
overflow_mul-p c = omega (arith, c.requests_from-n.ensures.inside, c.requires.at_in_bounds.1)

pub overflow_add-p : goal.overflow_add-p
overflow_add-p c = omega (arith, c.requests_from-n.ensures.inside, c.requires.at_in_bounds.1)

pub overflow_add-p-then-p-eq3 : goal.overflow_add-p-then-p-eq3
overflow_add-p-then-p-eq3 c =
    omega (arith, c.requests_from-n.ensures.inside, c.requires.at_in_bounds.1, c.requires.at_in_bounds.3)

pub overflow_mul-p-then-p-eq3 : goal.overflow_mul-p-then-p-eq3
overflow_mul-p-then-p-eq3 c = omega (arith, c.requests_from-n.ensures.inside, c.requires.at_in_bounds.1)

pub overflow_add-p-then-p-eq3-2 : goal.overflow_add-p-then-p-eq3-2
overflow_add-p-then-p-eq3-2 c =
    omega (arith, c.requests_from-n.ensures.inside, c.requires.at_in_bounds.1, c.requires.acts_at_bound)

pub returns-then-p-eq3 : goal.returns-then-p-eq3
returns-then-p-eq3 c = requests-onward c.requests_from-n.ensures c.if-p-eq3.true

pub returns-else-p-eq3 : goal.returns-else-p-eq3
returns-else-p-eq3 c = no-requests _ _ _
