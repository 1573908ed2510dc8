-- The lemmas on woods of runs.
pub mod Sides
pub mod ParentLemmas
pub mod Corners
mod RunWoodsCases
pub mod Steps
pub mod Shades
pub mod Nested
pub mod Sided
pub mod Counts
pub mod Crossing
pub mod Walks
pub mod Edges
pub mod Darts
pub mod Regions
mod RunRegionsCases
