-- The definitions of this crate.
pub mod Listing
pub mod Inner
