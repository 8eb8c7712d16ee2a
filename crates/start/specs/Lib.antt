-- The machine before the first event, made from the requests in it.
pub mod Inner
