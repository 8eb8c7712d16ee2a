-- The laws of rows and of writing.
pub mod Bytes
pub mod Bodies
pub mod Entries
pub mod Lists
pub mod Sizes
pub mod Puts
pub mod Checks
pub mod Results
pub mod Examples
