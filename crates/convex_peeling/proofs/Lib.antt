-- Faces and cuts in plane maps without cut vertices.
pub mod Contours
pub mod Corners
pub mod TwoFaces
pub mod Sides
pub mod Uncut
pub mod Meetings
pub mod PolyhedralLemmas
pub mod Neighbours
mod PolyhedralMapsCases
-- What the laws of contours rest on.
pub mod Faces
pub mod Kept
pub mod Crossings
pub mod Sections
pub mod Choices
pub mod Ears
pub mod EarsOff
pub mod ChainsOff
pub mod VertexOff
pub mod TakenOff
pub mod Removed
pub mod Firsts
pub mod StretchCounts
mod FacePeelingCases
