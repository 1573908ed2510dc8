-- Sides that edges have in each partition into left and right.
pub mod Ties
