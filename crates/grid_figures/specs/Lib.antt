-- A record as a triangulation with a canonical order.
pub mod DrawingOrdersBases
pub mod Orders
pub mod DrawingOrdersLaws
-- What the jobs `shift` and `schnyder` answer to a record.
pub mod Forms
pub mod ShiftFiguresFigures
pub mod ShiftFiguresLaws
pub mod SchnyderFiguresFigures
pub mod SchnyderFiguresLaws
-- Drawings by Schnyder's coordinates.
pub mod Gaps
pub mod Points
