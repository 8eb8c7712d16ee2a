-- The module step, the return and the collect, and the expansion of a message into the order list.
pub mod Shape
pub mod Collected
pub mod Returned
pub mod Expanded
pub mod Served
