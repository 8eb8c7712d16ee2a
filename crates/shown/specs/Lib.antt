-- The state that a view stands for, where an arrival lands, and the states that a run reaches.
pub mod Inner
