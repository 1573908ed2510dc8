-- The lemmas on drawings.
mod DrawingsCases
pub mod ByDarts
pub mod OneBreak
pub mod OfLists
-- The lemmas on sweeps.
mod PlaneSweepCases
pub mod Order
pub mod Areas
pub mod Pairs
pub mod Stacks
pub mod Kept
pub mod Done
-- Lemmas of the sweep.
pub mod ListLemmas
pub mod FreshLemmas
mod LineLemmas
mod StepLemmas
mod SweepLemmas
mod TopLemmas
pub mod FirmLemmas
mod Refused
