-- The lemmas on shift points.
pub mod Areas
pub mod Steps
pub mod Opening
pub mod Corners
mod Cases
-- The lemmas on drawings by shift points.
pub mod ShiftLemmas
-- Lemmas on trees of offsets.
mod MetLemmas
mod OffsetTreesRowLemmas
mod PutLemmas
mod NextLemmas
mod WriteLemmas
mod GrownLemmas
mod OffsetTreeCases
mod OffsetTreesRefused
-- Lemmas on trees of offsets over a map.
pub mod ShiftTreesRowLemmas
pub mod DartLemmas
pub mod TreeLemmas
pub mod LinkLemmas
pub mod PointLemmas
mod TreeSteps
mod ShiftTreesRefused
-- Lemmas on drawings by the shift method.
mod DrawLemmas
