-- Lemmas on valid drawings.
pub mod DartTotals
pub mod FaceSteps
pub mod FacesJoined
pub mod TriangleSums
pub mod ValidFewer
pub mod OuterFewer
pub mod EdgeCounts
pub mod EdgeNumbers
pub mod NumberCounts
pub mod NextEdges
pub mod BarsApart
mod FrameLemmas
