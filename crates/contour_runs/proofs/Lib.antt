-- The lemmas on runs that make faces of any size.
pub mod Upward
pub mod FaceRunsPlaces
pub mod FaceRunsStages
pub mod FaceRunsFaces
pub mod FaceRunsCases
-- The lemmas on runs of insertions.
pub mod Places
pub mod Fans
pub mod Stages
pub mod Contours
pub mod Faces
pub mod Growing
pub mod Cases
-- The lemmas on Schnyder's coordinates.
pub mod Areas
pub mod Steps
pub mod WoodPointsFaces
pub mod Corners
pub mod Differences
mod WoodPointsCases
