-- The text of a run, from what the machine in code holds at its end. No contract of the public function names it.
use Rattle.std.specs.Prelude.{ℕ, ◌≤◌, List, length}
use Rattle.text.specs.Text.{reply_lines, order_lines, accepted_text}
use Rattle.view.specs.Inner.View.{View}
use Rattle.results.specs.Inner.Copied.{values_in, marks_in}

-- its lines fit the room for every report
pub record Printable (v : View) : Type 0 where
  pub requests-few : v.fixed.count ≤ 256
  pub order-few : length v.order ≤ 256

-- the lines of its replies, and of its order list
abbrev pub replies_in : View → List ℕ
replies_in v = reply_lines v.fixed.count (values_in v v.fixed.count) (marks_in v v.fixed.count)

abbrev pub orders_in : View → List ℕ
orders_in v = order_lines (length v.order) v.order

-- and the whole text
abbrev pub text_in : View → List ℕ → List ℕ → List ℕ
text_in v words named =
    let count = v.fixed.count in
    accepted_text count (values_in v count) (marks_in v count) (length v.order) v.order words named v.accesses v.merges v.rounds
