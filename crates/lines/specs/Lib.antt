-- The definitions of this crate.
pub mod Forms
pub mod Said
pub mod Inner
