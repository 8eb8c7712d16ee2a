-- The proofs of the report: its sections by the code, that it is the only one, and document 01's examples.
pub mod Examples
pub mod Names
pub mod Lines
pub mod Reports
pub mod Unique
