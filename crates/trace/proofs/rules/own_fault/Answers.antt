-- `own_fault` meets its contract: kind by kind.
use mathlib.Core.Path.{refl, ap, ◌∙◌}
use native.Mathlib.Omega.{arith}
use lib.ListN.{get_or}
use Rattle.trace.specs.Refusals.{own_fault}
use Rattle.trace.specs.Contents.{given, words_given}
use Rattle.trace.specs.Inner.Kinds.{number_of_kind}
use Rattle.trace.proofs.Table.{says-shape, says-word, says-request, says-event, says-drain}
use Rattle.trace.proofs.Tests.{mark-test}
use Rattle.trace.proofs.rules.own_fault.Goals as goal

pub shape_fault-requires : goal.shape_fault-requires
shape_fault-requires c = (says-shape c.args.r.body.now (ap number_of_kind c.in-Shape.is) c.requires.0.right).long

pub bounds-b-0 : goal.bounds-b-0
bounds-b-0 c = omega (arith, (says-word c.args.r.body.now (ap number_of_kind c.in-Word.is) c.requires.0.right).long)

pub request_fault-requires : goal.request_fault-requires
request_fault-requires c = ((says-request c.args.r.body.now (ap number_of_kind c.in-Request.is) c.requires.0.right).long, c.requires.1)

pub event_fault-requires : goal.event_fault-requires
event_fault-requires c = ((says-event c.args.r.body.now (ap number_of_kind c.in-Event.is) c.requires.0.right).long, c.requires.1)

pub returns-in-Shape : goal.returns-in-Shape
unfolding own_fault
returns-in-Shape c = let said = says-shape c.args.r.body.now (ap number_of_kind c.in-Shape.is) c.requires.0.right in
    record { is = λ before known. rw said.is c.shape_fault.ensures }

pub returns-in-Word : goal.returns-in-Word
unfolding own_fault
returns-in-Word c = let said = says-word c.args.r.body.now (ap number_of_kind c.in-Word.is) c.requires.0.right in
    let a = get_or c.args.r.body.now 0 0 in
    record {
      is = λ before known.
          let mark = known.marks-are a (omega arith) in
          rw said.is (c.word_fault.ensures ∙ rw mark (mark-test (given (words_given before) a)));
    }

pub returns-in-Request : goal.returns-in-Request
unfolding own_fault
returns-in-Request c = let said = says-request c.args.r.body.now (ap number_of_kind c.in-Request.is) c.requires.0.right in
    record { is = λ before known. rw (said.is, ← known.requests-is, ← known.k-is) c.request_fault.ensures }

pub returns-in-Event : goal.returns-in-Event
unfolding own_fault
returns-in-Event c = let said = says-event c.args.r.body.now (ap number_of_kind c.in-Event.is) c.requires.0.right in
    record { is = λ before known. rw (said.is, ← known.k-is) c.event_fault.ensures }

pub returns-in-Drain : goal.returns-in-Drain
unfolding own_fault
returns-in-Drain c = let said = says-drain c.args.r.body.now (ap number_of_kind c.in-Drain.is) c.requires.0.right in
    record { is = λ before known. rw said.is refl }
