-- What a drain leaves, and when every request is answered.
pub mod Inner
