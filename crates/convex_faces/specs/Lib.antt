-- Convex woods as values.
pub mod Notes
pub mod Directions
-- The faces inside a closed walk, and regions of convex woods.
pub mod Search
pub mod Passing
pub mod FaceRegionsLaws
