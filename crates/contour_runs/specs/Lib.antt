-- Runs of insertions over a contour.
pub mod Runs
pub mod Laws
-- Runs that make faces of any size, and how a run of insertions is one.
pub mod FaceRuns
pub mod FaceRunsLaws
pub mod Fans
-- Schnyder's coordinates over a run.
pub mod Wood
pub mod Spread
pub mod Contours
pub mod Gaps
pub mod WoodPointsLaws
