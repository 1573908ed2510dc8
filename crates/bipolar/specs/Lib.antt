-- Dual numbers of an st-order, the drawing that they give, and the law that it is valid.
pub mod DualNumbers
pub mod Drawn
pub mod Laws
-- The faces of a map with an st-order as a graph.
pub mod FaceArcs
pub mod Columns
pub mod Numbered
-- Its faces by the numbers of its darts.
pub mod FaceNumbers
