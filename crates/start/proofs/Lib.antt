-- The requests of a trace linked, engine by engine.
pub mod Linking
