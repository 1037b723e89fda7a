-- The energy book: what a step and a bend enter in it.
pub mod Entering
