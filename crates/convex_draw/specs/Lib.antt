-- Points by counts of faces, in linear time.
pub mod Spots
pub mod Runs
pub mod Sums
pub mod Points
-- Convex drawings from any base.
pub mod Grids
pub mod RunPoints
-- The figures of records by convex drawings.
pub mod Figures
