-- `made::rows_made` meets its contract: what `write` answers decides what is made.
use Rattle.writer.proofs.Making.{refused-made, accepted-made}
use Rattle.writer.proofs.made.rows_made.Goals as goal

pub returns-then-written-ne0 : goal.returns-then-written-ne0
returns-then-written-ne0 c =
    refused-made c.args.text.now c.write-written.ensures c.requires.0 c.if-written-ne0.true c.line_refused-line.ensures
    c.put_refused.ensures.0 c.put_refused.ensures.1 c.requires.1

pub returns : goal.returns
returns c =
    accepted-made c.args.text.now c.write-written.ensures c.requires.0 c.if-written-ne0.false
