-- A row, the rows of a round, and the rounds of a drain.
pub mod Rows
pub mod Whole
pub mod Draining
