-- The lemmas on points by counts of faces.
pub mod Gains
pub mod Steps
pub mod Areas
pub mod Kept
pub mod Made
pub mod FacePointsSides
pub mod Convex
pub mod Apart
pub mod Middles
pub mod Turns
pub mod Touched
pub mod Whole
pub mod Corners
pub mod Walks
pub mod Outer
mod FacePointsCases
-- The lemmas on the woods of runs.
pub mod Signs
pub mod Ends
pub mod DartKinds
pub mod FaceWoodsSides
pub mod Leads
pub mod Found
