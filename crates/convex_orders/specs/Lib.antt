-- Numbers of faces, entry by entry.
pub mod FaceNumbers
-- A contour as two stacks, and how often it meets each number of a face.
pub mod Contours
pub mod Counts
pub mod Ways
pub mod Moved
pub mod Noted
-- How faces are taken off from outside, in tables.
pub mod Shown
pub mod Splits
pub mod Cuts
pub mod Standing
pub mod Tables
