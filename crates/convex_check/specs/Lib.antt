-- The verdict on a convex drawing.
pub mod Walks
pub mod Verdicts
pub mod Laws
