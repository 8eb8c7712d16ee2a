-- The laws of lines.
pub mod Examples
pub mod Fields
pub mod Lines
pub mod Numbers
pub mod Places
pub mod Rows
pub mod Spans
