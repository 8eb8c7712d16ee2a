-- What becomes of a reply one level down, and what an expansion asks.
pub mod Inner
