-- The laws of bits, and of the operations.
pub mod Bits
pub mod Laws
