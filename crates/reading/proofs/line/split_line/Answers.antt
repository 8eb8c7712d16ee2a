-- `split_line` meets its contract.
use Rattle.std.proofs.Common.{rules, ℕ, suc, ◌≡◌, ◌∙◌, ap, length, take, min, add-one}
use Rattle.lines.specs.Said.{leading}
use Rattle.lines.proofs.Spans.{leading_while}
use Rattle.reading.specs.Text.{in_line}
use Rattle.reading.proofs.Lines.{line-passed}
use Rattle.reading.proofs.line.split_line.Goals as goal

pub returns : goal.returns
returns c =
    let text = c.args.text.now in
    let long : c.line_length-end.result ≡ leading in_line text = c.line_length-end.ensures ∙ leading_while in_line text in
    let next : c.min-next.result ≡ min (suc (leading in_line text)) (length text) =
    c.min-next.ensures ∙ rw (add-one, long) in
    record {
      some = search rules;
      line_is = ap (λ (n : ℕ). take n text) long;
      rest-is = line-passed text (leading in_line text) c.min-next.result next;
    }
