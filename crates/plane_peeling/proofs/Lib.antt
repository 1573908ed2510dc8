-- What the laws of vertices taken off rest on.
mod Cases
pub mod Rings
pub mod Ways
pub mod RestrictedMaps
pub mod OuterCycles
pub mod BaseFaces
pub mod OnCycle
pub mod RemovableVertices
pub mod Fans
pub mod CycleAfter
pub mod TakenOff
pub mod Counted
pub mod Steps
pub mod Ends
pub mod RemovableCounts
pub mod Covers
pub mod TwoGone
pub mod OpenAfter
pub mod Quadrangles
