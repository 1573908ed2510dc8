-- What the law rests on.
pub mod Parts
pub mod Growth
mod ContractibleEdgesCases
-- What the laws rest on.
pub mod Numbers
pub mod Places
pub mod Traces
pub mod Spans
pub mod Rings
pub mod Gaps
pub mod FewVertices
mod RingWitnessCases
-- What the laws rest on.
pub mod Frames
pub mod Inserted
pub mod BadSteps
pub mod AtVertex
pub mod Links
pub mod Separations
pub mod Lifted
pub mod Single
pub mod Routed
pub mod Routes
mod ContractionsCases
