-- Lemmas on rectangular orders.
mod Cases
pub mod Closed
pub mod SameCycles
pub mod Transfer
pub mod Lefts
mod SomeOrder
pub mod Shortened
pub mod Joined
pub mod RunOfMap
-- Lemmas on rectangular duals of maps.
pub mod Renamed
pub mod Figures
-- Lemmas on rectangular orders as code.
mod Notes
mod Passing
mod Contours
mod Beginning
mod Refused
-- Lemmas on corners of a map.
pub mod Corners
-- Lemmas on edge labellings.
pub mod Cyclic
pub mod Around
pub mod Frame
pub mod ByLabels
pub mod RectLabellingsCases
