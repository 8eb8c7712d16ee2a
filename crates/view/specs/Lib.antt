-- What the machine in code holds, by name, and its changes.
pub mod Inner
