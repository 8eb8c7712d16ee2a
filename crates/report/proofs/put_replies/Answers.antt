-- `report::put_replies` meets its contract: the values and marks are copied into two arrays, and written from there.
use Rattle.store.specs.Inner.Memory.{view}
use Rattle.report.proofs.Lines.{wrote-replies}
use Rattle.report.proofs.put_replies.Goals as goal

pub returns : goal.returns
returns c =
    wrote-replies (view c.args.m.now) c.requires.printable c.requests_in-n.ensures c.copy_values.ensures c.copy_marks.ensures
    c.put_replies.ensures
