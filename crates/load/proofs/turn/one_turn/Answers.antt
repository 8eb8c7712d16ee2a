-- `one_turn` meets its contract: the end, a bad header, a fault, or one record on.
use mathlib.Core.Path.{sym}
use native.Mathlib.Omega.{arith}
use Rattle.std.proofs.Common.{rules, Err}
use Rattle.trace.proofs.Records.{head-body}
use Rattle.load.specs.Inner.Loop.{TurnRight}
use Rattle.load.proofs.Verdicts.{turn-stop, turn-bad, turn-fault, turn-go, clean-request}
use Rattle.load.proofs.turn.one_turn.Goals as goal

pub record_fault-requires : goal.record_fault-requires
record_fault-requires c = ((head-body (rw (c.new.ensures.0, c.new.ensures.1, c.in-Some.is) at c.in_ok-record.ensures)).bodied, c.requires.so_far.known.k-low)

pub noted-requires : goal.noted-requires
noted-requires c =
    let h = head-body (rw (c.new.ensures.0, c.new.ensures.1, c.in-Some.is) at c.in_ok-record.ensures) in
    let i = c.requires in
    let found = c.in_ok-record_fault.ensures in
    record {
      known = record {
        bodied = h.bodied;
        at_low = omega (arith, i.at-inside, i.short);
        few = λ three. (clean-request i h.stands h.bodied found three).0;
        room = i.room.known;
      };
      put = record {
        right = h.bodied.right;
        few = λ three. (clean-request i h.stands h.bodied found three).0;
        k-low = i.so_far.known.k-low;
        engine-below = λ three. (clean-request i h.stands h.bodied found three).1;
        words_size = i.room.words_size;
        sized = i.so_far.loaded.sized;
      };
    }

pub returns-in_default-clause-right : goal.returns-in_default-clause-right
returns-in_default-clause-right c =
    turn-stop c.requires (sym ((rw (c.new.ensures.0, c.new.ensures.1, c.in_default.is) at c.in_ok-record.ensures).says))

pub returns-in_err-record-clause-right : goal.returns-in_err-record-clause-right
returns-in_err-record-clause-right c = let f = c.in_err-record.field-0.0 in
    let a = c.args in
    let turn : TurnRight a.s.now a.p a.into.now.marks.now a.into.now.words.now a.into.now.m.now (Err f) =
    turn-bad c.requires f (sym ((rw (c.new.ensures.0, c.new.ensures.1) at c.in_err-record.ensures).says)) in
    search rules

pub returns-in_err-record_fault-clause-right : goal.returns-in_err-record_fault-clause-right
returns-in_err-record_fault-clause-right c = let f = c.in_err-record_fault.field-0.0 in
    let a = c.args in
    let h = head-body (rw (c.new.ensures.0, c.new.ensures.1, c.in-Some.is) at c.in_ok-record.ensures) in
    let turn : TurnRight a.s.now a.p a.into.now.marks.now a.into.now.words.now a.into.now.m.now (Err f) = turn-fault c.requires h.stands f c.in_err-record_fault.ensures in
    search rules

pub returns-clause-right : goal.returns-clause-right
returns-clause-right c =
    let h = head-body (rw (c.new.ensures.0, c.new.ensures.1, c.in-Some.is) at c.in_ok-record.ensures) in
    turn-go c.requires h.stands h.inside h.bodied c.in_ok-record_fault.ensures c.noted.result _ _ _ c.noted.ensures.keeps
