-- How a lent slice is filled, and what it then holds.
pub mod Filling
