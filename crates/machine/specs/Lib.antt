-- The machine as a definition over any setup, from its parts to demand 3; and document 01's setup.
pub mod Setup
pub mod Arrival
pub mod State
pub mod Steps
pub mod Run
pub mod Single
pub mod Order
pub mod Omega
pub mod Octets
pub mod Inner
