-- What the report's function promises, for every trace and every lent buffer.
use Rattle.std.specs.Prelude.{ℕ, ◌*◌, ◌≤◌, ◌≡◌, List, length, take, leb, Option, Some, None, IfSome}
use Rattle.lists.specs.Choice.{choose}
use Rattle.text.specs.Text.{line_room}
use Rattle.lists.specs.Over.{over}
use Rattle.report.specs.Report.{report}

-- at most 256 replies, 256 order places, 256 words and 3 counts
abbrev pub report_room : ℕ
report_room = line_room * 771

-- the text at the start of a buffer that has room for every report, and its length; a smaller buffer stays as it is, and no length is told
pub record Reported (trace before : List ℕ) (r : Option ℕ) (after : List ℕ) : Type 0 where
  pub len_is : r ≡ choose (leb report_room (length before)) (Some (length (report trace))) None
  pub text-is : after ≡ choose (leb report_room (length before)) (over (report trace) before) before
  -- so that a caller may take the part that was written
  pub counts : IfSome r (λ len. (len ≤ length after) × (len ≡ length (take len after)))
