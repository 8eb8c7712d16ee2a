-- The definitions of this crate.
pub mod Interface
