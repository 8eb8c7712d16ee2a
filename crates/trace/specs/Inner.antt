-- What only proofs and the contracts of inner functions need: no statement of a public function rests on it.
pub mod Acts
pub mod Fits
pub mod Kinds
pub mod Known
pub mod Masked
pub mod Ranges
pub mod Told
