-- The laws of the listing: its lines, the walk over the records, the whole text, that it is the only one, examples; and that a line is
-- read as it was written.
pub mod Examples
pub mod Lines
pub mod Walk
pub mod Listings
pub mod Unique
pub mod Fields
pub mod Again
