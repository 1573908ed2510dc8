-- The definitions of maps, paths and lists without an edge.
pub mod Maps
pub mod Paths
pub mod Edges
-- The Euler bound for maps.
pub mod Bound
