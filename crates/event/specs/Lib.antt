-- Events, drains, and which events name a step.
pub mod Event
pub mod Inner
