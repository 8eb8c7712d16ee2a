-- The size of rows' records by their kinds alone.
use Rattle.std.specs.Prelude.{ℕ, zero, suc, ◌+◌, ◌*◌, List, get_or}
use Rattle.trace.specs.Table.{body_size, kind_row}

-- of the first n rows; a kind that there is none of has no body
unfoldable pub size_to : List ℕ → ℕ → ℕ
size_to heads zero = 0
size_to heads (suc n) = size_to heads n + (4 + body_size (kind_row (get_or heads (2 * n) 0)))
