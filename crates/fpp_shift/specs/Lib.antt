-- The points of the shift method.
pub mod Shift
pub mod Contours
pub mod Opened
pub mod Laws
-- Drawings by the shift method.
pub mod ShiftDrawings
-- Trees of offsets.
pub mod Nodes
pub mod Ways
pub mod Sums
pub mod OffsetTreesRows
pub mod Writes
pub mod Grown
pub mod Next
pub mod OffsetTreesLaws
-- The tree of offsets over a map and a canonical order of it.
pub mod ShiftTreesRows
pub mod Trees
pub mod ShiftTreesLaws
