-- What only proofs and the contracts of inner functions need: no statement of a public function rests on it.
pub mod Machine
pub mod Loaded
pub mod Loop
pub mod Places
