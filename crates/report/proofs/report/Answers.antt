-- `report::report` meets its contract: the text where there is room for it.
use borrow.Author.Rules.{rules}
use Rattle.digits.proofs.Buffer.{new-printed}
use Rattle.report.proofs.Reports.{reported-fits}
use Rattle.report.proofs.report.Goals as goal

pub returns : goal.returns
returns c =
    let room = c.if-out-lt-ROOM.false in
    reported-fits _ _ room (new-printed c.new-printed.ensures.bytes c.new-printed.ensures.at room c.put_report.ensures (search rules))
