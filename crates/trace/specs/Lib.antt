-- The definitions of this crate.
pub mod Bytes
pub mod Item
pub mod Table
pub mod Write
pub mod Records
pub mod Contents
pub mod Refusals
pub mod Check
pub mod Answers
pub mod Inner
