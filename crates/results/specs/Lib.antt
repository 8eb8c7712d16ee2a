-- What a run leaves in lent memory.
pub mod Inner
