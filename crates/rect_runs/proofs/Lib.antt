-- The lemmas on labels and numbers.
pub mod Edges
pub mod Steps
pub mod Parents
pub mod Corners
pub mod Later
pub mod Cases
-- The lemmas on boxes.
pub mod Sides
pub mod RectBoxesEnds
pub mod RectBoxesFrame
pub mod Skyline
pub mod Cells
pub mod Contacts
pub mod Totals
pub mod Areas
pub mod Top
pub mod Faces
mod RectBoxesCases
-- Lemmas on leading vertices.
pub mod Left
pub mod Lower
pub mod Room
-- Lemmas on ends of edges.
pub mod RectEndsEnds
pub mod RectEndsFrame
pub mod Rounds
