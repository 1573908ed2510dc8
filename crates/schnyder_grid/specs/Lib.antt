-- The order of a wood as a graph.
pub mod Arcs
-- Figures of records by the regions of a wood.
pub mod FigureRegions
