-- Laws that several proofs cite, and those for the crates above.
pub mod Tests
pub mod Numbers
pub mod Fields
pub mod Table
pub mod KindRows
pub mod Records
pub mod Contents
pub mod Written
pub mod Accept
pub mod Ranges
pub mod ActsLeft
pub mod Known
pub mod Masks
pub mod Events
pub mod Runs
pub mod Answers
