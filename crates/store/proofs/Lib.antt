-- What each read finds and each write changes of the view: a file for each part of the array.
pub mod Grid
pub mod Columns
pub mod Held
pub mod Regions
pub mod Heads
pub mod Tagged
pub mod Queued
pub mod Answered
pub mod Shaped
pub mod Blank
