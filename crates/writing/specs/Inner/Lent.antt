-- The rows that the code's struct lends.
use Rattle.writing.specs.Rows.{Rows, rows}
use Rattle.writing.specs.declared.rows.Rows.{Rows as LentRows}

abbrev pub lent : LentRows → Rows
lent r = rows r.heads.now r.bytes.now r.words.now
