-- The laws of which events name a step.
pub mod Steps
pub mod Levels
