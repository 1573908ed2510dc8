pub mod Tally
pub mod Subdivisions
pub mod Counts
pub mod Patterns
pub mod Refuted
-- What the law rests on.
pub mod Joined
pub mod Expanded
-- What adjacency in a graph of lists means.
pub mod GraphLemmas
-- What the law rests on.
pub mod Graphs
pub mod Sides
pub mod TwoSides
pub mod Base
pub mod Contracted
pub mod Induction
mod Cases
