-- Depth-first searches over lists, and the forests that they leave.
pub mod Forests
pub mod UnderWay
pub mod Lows
-- Cut vertices and separating pairs, and how they show in a search.
pub mod Cuts
pub mod Flags
pub mod Without
-- Directed graphs as lists, the lengths of longest paths, and a run over them.
pub mod Arcs
pub mod Progress
