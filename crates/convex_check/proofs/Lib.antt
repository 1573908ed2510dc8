-- Lemmas on the corners of a triangle with points on its sides.
pub mod Points
pub mod Extremes
pub mod ThirdCorner
mod TriangleCornersCases
mod TriangleCornersRefused
-- Lemmas on the check of convex drawings.
pub mod BendLemmas
pub mod OuterLemmas
pub mod VerdictLemmas
mod Cases
mod Refused
