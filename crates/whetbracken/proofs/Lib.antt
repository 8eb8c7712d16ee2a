-- The proofs of the C interface: the answer in six numbers, the report and the listing, and that each is the only one.
pub mod Answers
pub mod Reports
pub mod Unique
