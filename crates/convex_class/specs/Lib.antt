-- Which vertices the faces of a vertex pass, where faces meet a face, and marks that tell it.
pub mod Passing
pub mod Stamps
pub mod Meetings
pub mod Clear
-- Records as three-connected maps of genus zero.
pub mod Convexity
pub mod Laws
