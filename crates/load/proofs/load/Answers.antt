-- `load` meets its contract. The loop's invariant: what is known, loaded and marked is that of the records passed. Its measure: the bytes left.
use mathlib.Core.Path.{refl, ◌∙◌}
use native.Mathlib.Omega.{arith}
use borrow.Author.Rules.{rules}
use Rattle.load.specs.Inner.Loaded.{Loaded}
use Rattle.load.proofs.Verdicts.{inside-start, loaded-long, loaded-stop, loaded-lent}
use Rattle.load.proofs.load.Goals as goal

pub returns-then-s-gt-LONGEST : goal.returns-then-s-gt-LONGEST
returns-then-s-gt-LONGEST c = rw (c.requires.0, c.requires.1, c.requires.2) (loaded-long c.args.s.now (omega arith))

pub loop-fault-init : goal.loop-fault-init
loop-fault-init c =
    rw (c.start-p.ensures, c.requires.0, c.requires.1, c.requires.2)
    (record { marks = refl; words = refl; m = refl }, inside-start c.args.s.now (omega arith))

pub returns-in-Ok-None : goal.returns-in-Ok-None
returns-in-Ok-None c =
    let into = c.one_turn.new.into in
    let turn = rw (c.in-Ok-None.is, c.in-Ok-None.field-0-is) at c.one_turn.ensures.right in
    let loaded : Loaded c.args.s.now c.ended.result into.marks.now into.words.now into.m.now = rw c.ended.ensures (loaded-stop turn) in
    loaded-lent loaded (search rules) (search rules) (search rules)

pub past_acts-p-requires : goal.past_acts-p-requires
past_acts-p-requires c = let r = rw (c.in-Ok-Some.is, c.in-Ok-Some.field-0-is) at c.one_turn.ensures.right in
    let i = c.past_requests-r.ensures.inside _ _ r.1 in (i.at-inside, i.short, i.so_far.known.k-low)

pub loop-fault-preserved : goal.loop-fault-preserved
loop-fault-preserved c = let r = rw (c.in-Ok-Some.is, c.in-Ok-Some.field-0-is) at c.one_turn.ensures.right in
    let lent = c.one_turn.ensures.lent in let before = c.loop-fault.invariant.0 in (
      record { marks = lent.marks ∙ before.marks; words = lent.words ∙ before.words; m = lent.m ∙ before.m },
      c.past_acts-p.ensures.inside _ _ _ (c.past_requests-r.ensures.inside _ _ r.1),
    )
