-- `queue::Pairs::find` meets its contract: the lowest place with the tag is that of the oldest record, if it is one of those in use.
use native.Mathlib.Omega.{arith}
use Rattle.queue.proofs.Laws.{found-there, found-nowhere}
use Rattle.queue.proofs.Pairs.find.Goals as goal

pub returns-in-Some : goal.returns-in-Some
returns-in-Some c =
    let l = c.args.self in
    found-there l.firsts l.seconds l.len c.args.t c.requires c.in-Some.ensures.1 c.if-i-self.true

pub returns-in_default : goal.returns-in_default
returns-in_default c =
    let l = c.args.self in
    found-nowhere l.firsts l.seconds l.len c.args.t c.requires c.in-Some.i c.if-i-self.false c.in-Some.ensures.1.below

pub returns-in_default-2 : goal.returns-in_default-2
returns-in_default-2 c =
    let l = c.args.self in
    found-nowhere l.firsts l.seconds l.len c.args.t c.requires 8 c.requires c.in_default.ensures.below

pub returns-then-self-eq0 : goal.returns-then-self-eq0
returns-then-self-eq0 c =
    let l = c.args.self in
    found-nowhere l.firsts l.seconds l.len c.args.t c.requires 0 (omega (arith, c.if-self-eq0.true)) (λ j m. absurd (omega arith))
