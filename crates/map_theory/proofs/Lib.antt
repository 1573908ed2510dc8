-- The lemmas on maps that several crates need, and the worked cases on which the definitions were run.
mod Cases
pub mod EntryLemmas
pub mod DartLemmas
pub mod Known
pub mod DartCounts
pub mod WithoutEntry
pub mod EntryMore
pub mod WithoutEdge
-- Arcs of a list that is gone round, and lists whose entries go once round by an order.
pub mod ArcLemmas
pub mod RoundOrder
-- The darts of a map as permutations.
pub mod Transfer
pub mod DartPermutations
