-- Graphs with an edge contracted.
pub mod ContractedEdges
-- Edges that can be contracted.
pub mod Contractible
-- Witnesses renamed.
pub mod Renamed
-- Graphs with the ends of an edge merged.
pub mod Merged
-- Witnesses changed.
pub mod Changes
-- Witnesses of single edges, and witnesses that stay when an edge is contracted.
pub mod Kept
-- Witnesses all of whose paths are single edges.
pub mod Plain
