-- The laws of the report's lines and sections.
pub mod Lines
pub mod Sections
