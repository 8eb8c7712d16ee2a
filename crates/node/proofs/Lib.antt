-- The laws of a position in hand, and of an arrival at it.
pub mod Laws
pub mod Arrivals
