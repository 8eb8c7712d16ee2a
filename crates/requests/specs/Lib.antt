-- What an arrival in code asks, and what is told before it.
pub mod Inner
