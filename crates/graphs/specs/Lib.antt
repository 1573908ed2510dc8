-- Graphs by their edges, and the bits that say which pairs of vertices are edges.
pub mod Graphs
pub mod Bits
