-- The definitions of this crate.
pub mod Results
pub mod Inner
