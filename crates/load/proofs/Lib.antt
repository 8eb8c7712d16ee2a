-- Laws that several proofs cite, and those for the crates above.
pub mod Machine
pub mod Keeps
pub mod Verdicts
pub mod Onward
pub mod Requests
pub mod Refused
