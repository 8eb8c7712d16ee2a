-- The definitions of this crate.
pub mod Numeral
pub mod Line
pub mod Inner
