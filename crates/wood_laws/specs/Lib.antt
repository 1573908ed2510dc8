-- Schnyder's wood of a canonical order.
pub mod Woods
-- The regions of woods.
pub mod Regions
pub mod WoodRegionsLaws
-- The orders of a wood.
pub mod Arranged
pub mod WoodOrdersLaws
