-- The lemmas on woods of orders.
pub mod WoodLemmas
pub mod ColourNumbers
mod EdgeKinds
mod RegionLemmas
mod CountLemmas
-- The lemmas on the orders of a wood.
pub mod Ways
mod Ends
mod Peeled
mod Found
mod Begin
mod Ordered
mod Arranging
mod RunParents
mod Cases
