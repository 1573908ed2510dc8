-- The laws of maps of genus zero.
pub mod PlaneCuts
mod LawCases
pub mod DartPaths
pub mod ComponentPaths
pub mod CornerSplit
pub mod Generated
pub mod LoneEdge
pub mod EdgeRemoved
pub mod DigonSplit
pub mod EdgeFaces
pub mod EdgeBound
pub mod Triangles
-- The laws of edges put in and of edges kept.
mod Cases
pub mod EdgeComponents
pub mod EdgeAdded
pub mod KeptEdges
pub mod InsertedEntry
pub mod WithEdge
mod EdgeRows
pub mod VertexSmoothed
pub mod Chords
pub mod Extended
pub mod Completions
pub mod OuterChords
pub mod OuterLeaves
pub mod OuterFaces
