-- The laws of this crate.
pub mod Few
pub mod Parts
pub mod Suffices
pub mod Numbers
pub mod Making
