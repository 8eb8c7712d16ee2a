-- Laws that several proofs cite, and those for the crates above.
pub mod Network
pub mod Start
pub mod Acts
pub mod Results
pub mod Loading
