-- The law of witnesses.
pub mod Refuted
-- Maps of a graph from maps of it with an edge contracted.
pub mod Expanded
-- The graphs of lists.
pub mod ListGraphs
-- Each graph has a map of genus zero, or a witness.
pub mod Embedding
