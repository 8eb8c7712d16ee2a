-- A request lands at a position, and goes on a level.
pub mod Landings
pub mod Onward
