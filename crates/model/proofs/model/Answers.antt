-- `model` meets its contract: refused, without room, or run and given.
use Rattle.std.proofs.Common.{rules}
use Rattle.std.proofs.lemmas.Result.{err_from_is_err_and}
use Rattle.run.specs.Inner.Run.{Loading}
use Rattle.run.proofs.Loading.{load-loading}
use Rattle.model.proofs.Given.{may-give, gives-leaves}
use Rattle.model.proofs.Entry.{room-told, promised-refused, promised-no-room, promised-ran}
use Rattle.model.proofs.Demands.{all-kept}
use Rattle.model.proofs.model.Goals as goal
use Rattle.model.proofs.model.Goals.{After-has_room}

loading : (c : After-has_room) → Loading c.args.trace.now c.in_ok-facts.facts c.load.new.m c.load.new.words
loading c = load-loading c.load.ensures c.in_ok-facts.was

pub give-requires : goal.give-requires
give-requires c =
    may-give c.from_start.ensures _ (room-told _ _ (loading (goal.at.give-requires c).After-has_room) c.has_room.ensures c.if-not-has_room.false)

pub returns : goal.returns
returns c =
    let left = gives-leaves c.from_start.ensures _ c.give.ensures in
    all-kept (record { below = λ j. search rules })
    (promised-ran _ _ (loading (goal.at.returns c).After-has_room) c.has_room.ensures c.if-not-has_room.false left)

pub returns-in_err-facts : goal.returns-in_err-facts
returns-in_err-facts c =
    let p = err_from_is_err_and c.from_residual.result c.from_residual.ensures.1 in
    rw (p.1, p.2) (all-kept (record { below = λ j. search rules }) (promised-refused _ _ _ c.in_err-facts.ensures.answer))

pub returns-then-not-has_room : goal.returns-then-not-has_room
returns-then-not-has_room c =
    all-kept (record { below = λ j. search rules })
    (promised-no-room _ _ (loading (goal.at.returns-then-not-has_room c).After-has_room) c.has_room.ensures c.if-not-has_room.true)
