-- The laws of reading.
pub mod Rows
pub mod Put
pub mod Lines
pub mod Held
pub mod Walk
pub mod Told
pub mod Lent
pub mod Examples
