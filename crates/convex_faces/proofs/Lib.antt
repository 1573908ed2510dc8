-- Lemmas on convex woods as values.
pub mod NoteLemmas
pub mod WoodLemmas
mod Refused
-- The lemmas on the search.
mod CountLemmas
-- Lemmas on regions.
mod PassLemmas
mod RestLemmas
mod AxisLemmas
mod RegionLemmas
