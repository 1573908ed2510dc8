-- Canonical orders as runs.
pub mod OrderRuns
-- Drawings of triangulations by runs.
pub mod RunDrawings
-- What methods of drawing read from a canonical order and write by it.
pub mod Ranks
pub mod Rows
pub mod Points
-- Drawings of triangulations by Schnyder's coordinates.
pub mod SchnyderDrawings
