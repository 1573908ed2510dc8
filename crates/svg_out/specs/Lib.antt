-- Edges in their order, and figures as SVG.
pub mod Edges
pub mod Svg
