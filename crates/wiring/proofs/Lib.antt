-- The laws of a path, of the word that holds it, and of shifts by its numbers.
pub mod Laws
pub mod Shifts
pub mod Paths
