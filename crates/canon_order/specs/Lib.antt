-- Canonical orders, and how they are found.
pub mod Ranks
pub mod Orders
pub mod Laws
pub mod Lefts
pub mod Marks
pub mod Contours
