-- The laws of plane maps, as statements about all maps.
pub mod Laws
pub mod Triangulations
-- The laws of edges put in and kept, and of vertices smoothed.
pub mod Added
pub mod Kept
pub mod WithEdge
pub mod Smoothed
pub mod Chords
pub mod MapEditsCompleted
pub mod OuterFaces
