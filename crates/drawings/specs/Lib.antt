-- What a valid drawing is: by straight lines, convex, by bars, by rectangles.
pub mod Valid
pub mod OuterFaces
pub mod Corners
pub mod Convex
pub mod Bars
pub mod NextEdges
pub mod Duals
pub mod Frames
pub mod Laws
