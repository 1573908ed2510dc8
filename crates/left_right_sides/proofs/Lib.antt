-- Returning edges, and vertices placed.
pub mod Returned
pub mod Placed
pub mod Sorted
pub mod Finding
pub mod Children
pub mod Searching
pub mod Numbered
pub mod Sided
-- Stacks in the lists of vertices.
pub mod Items
pub mod Taken
