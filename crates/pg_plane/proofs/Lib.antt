-- Lemmas on products of bounded numbers, and on directions.
pub mod Products
pub mod Directions
mod Refused
-- The lemmas on coverings.
pub mod Ring
pub mod Identities
pub mod Triangle
pub mod Counts
pub mod Faces
pub mod Clash
pub mod Near
pub mod Crossing
pub mod Segments
pub mod Round
pub mod Tilted
pub mod OnEdge
pub mod PlaneByDarts
pub mod ClockOrder
