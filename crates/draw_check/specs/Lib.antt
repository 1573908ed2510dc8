-- What a check of a drawing answers, and its laws.
pub mod Faults
pub mod Verdicts
pub mod Laws
pub mod Loops
pub mod Spans
pub mod Wedges
pub mod Stars
pub mod OnEdges
pub mod FaceVerdicts
pub mod Outer
pub mod Corners
pub mod FaceLaws
pub mod FaceSums
