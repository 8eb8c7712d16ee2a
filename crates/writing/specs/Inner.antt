-- What only proofs and the contracts of inner functions need: no statement of a public function rests on it.
pub mod Lent
pub mod Records
pub mod Checked
pub mod Sizes
