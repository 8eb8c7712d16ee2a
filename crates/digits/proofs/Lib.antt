-- The laws of what is written into a buffer, of lines, of numerals, and of texts read as numbers.
pub mod Buffer
pub mod Lines
pub mod Numerals
pub mod Spelling
