-- Orders that rectangular duals rest on.
pub mod Maps
pub mod Orders
pub mod Lefts
pub mod Laws
pub mod Runs
-- Rectangular duals of maps.
pub mod Figures
-- What is kept of the vertices while they are taken off.
pub mod Contours
pub mod Frames
-- Corners of a map with a rectangular order.
pub mod Corners
-- Edge labellings.
pub mod Labellings
