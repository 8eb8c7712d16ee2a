-- What the machine in code holds for the caller: document 01, "Accepted".
use Rattle.std.specs.Prelude.{ℕ, List}
use Rattle.lists.specs.Choice.{choose}
use Rattle.lists.specs.Table.{list_below}
use Rattle.view.specs.Inner.View.{View}

-- "first R reply values (0 where unanswered)"
abbrev pub value_in : View → ℕ → ℕ
value_in v t = choose (v.answered t) (v.carried t).first 0

abbrev pub values_in : View → ℕ → List ℕ
values_in v n = list_below n (value_in v)

-- "and marks (1 answered, 0 otherwise)"
abbrev pub mark_in : View → ℕ → ℕ
mark_in v t = choose (v.answered t) 1 0

abbrev pub marks_in : View → ℕ → List ℕ
marks_in v n = list_below n (mark_in v)
