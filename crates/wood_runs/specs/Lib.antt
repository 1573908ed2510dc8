-- The woods of runs.
pub mod Parents
pub mod Rules
-- The regions of runs.
pub mod Fronts
pub mod Edges
pub mod Laws
