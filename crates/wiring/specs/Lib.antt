-- The positions of a path, and a path as one word.
pub mod Wiring
pub mod Inner
