-- Lemmas on searches.
pub mod StepLemmas
pub mod TableLemmas
pub mod ForestLemmas
pub mod LowLemmas
mod LowsSoFar
mod SearchForestsRefused
-- Walks, and how cut vertices show in a search.
pub mod WalkLemmas
pub mod CutLemmas
pub mod FlagLemmas
pub mod PairLemmas
pub mod PartnerLemmas
mod Cases
mod MapCutsRefused
-- The lemmas on sums, and on runs over arcs.
pub mod Sums
mod Progress
mod LongestPathsRefused
