-- Vertices taken off a plane map from its outer cycle.
pub mod Restricted
pub mod NearTriangulations
pub mod Peeled
pub mod TwoGone
pub mod Laws
