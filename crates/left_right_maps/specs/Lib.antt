-- Orders of edges at a fork, and tours of rooted maps.
pub mod Orders
pub mod RootedMaps
pub mod Brackets
pub mod Graphs
pub mod Trees
