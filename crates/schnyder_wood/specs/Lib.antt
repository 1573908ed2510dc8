-- Woods as the code holds them.
pub mod Parents
pub mod Tables
-- Regions, counted.
pub mod Boundaries
pub mod ClosedPaths
pub mod Search
pub mod Counting
