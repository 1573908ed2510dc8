-- Blocks of edges, and what forks demand of sides.
pub mod Blocks
pub mod Ties
pub mod Parts
pub mod Found
pub mod Steps
pub mod Trims
pub mod Begun
pub mod States
pub mod Forks
