-- Records as connected maps of genus zero without cut vertices.
pub mod BiconnectedMaps
pub mod Laws
pub mod Searched
-- Numberings of the components of maps.
pub mod Parts
-- Graphs as lists.
pub mod GraphLists
-- Maps with what is counted of them.
pub mod Counted
