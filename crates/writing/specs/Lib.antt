-- The definitions of this crate.
pub mod Rows
pub mod Writing
pub mod Promise
pub mod Inner
