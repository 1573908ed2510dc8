-- Depths by a search, and trees.
pub mod Depths
pub mod Trees
pub mod Sides
pub mod Upward
pub mod Decided
pub mod Orders
pub mod Blocks
pub mod Placing
