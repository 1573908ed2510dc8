-- What the laws rest on.
pub mod Marks
pub mod Holes
pub mod FaceRings
pub mod Inserts
pub mod Turned
-- What the laws rest on.
pub mod Labels
pub mod Unions
pub mod Entries
pub mod UnionLists
pub mod AtVertex
pub mod AlongEdge
