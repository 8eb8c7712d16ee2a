-- What only proofs and the contracts of inner functions need: no statement of a public function rests on it.
pub mod Layout
pub mod Memory
pub mod Kinds
