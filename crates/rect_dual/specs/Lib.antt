-- The turns of a rectangular run, from its rows.
pub mod Turns
-- The right and the upper sides of boxes, as code fills them.
pub mod Sides
-- Lines in an order, as linked lists.
pub mod Lines
-- Lines of vertices that are put over a contour.
pub mod Ways
pub mod States
-- The left and the lower sides of boxes, by one name each.
pub mod SidesOfBoxes
-- Boxes in tables, and by the ranks of vertices.
pub mod RectDrawTables
-- The figures of records by rectangular duals.
pub mod Figures
-- Edge labellings as values.
pub mod EdgeLabelsTables
pub mod Labellings
