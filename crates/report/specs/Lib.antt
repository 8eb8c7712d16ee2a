-- The definitions of this crate.
pub mod Report
pub mod Written
pub mod Inner
