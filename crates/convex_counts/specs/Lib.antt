-- Points by counts of faces, over a run.
pub mod Counts
pub mod Contours
pub mod Turns
pub mod FacePointsLaws
-- The woods of runs that make faces of any size.
pub mod Axes
pub mod Rising
pub mod FaceWoodsLaws
