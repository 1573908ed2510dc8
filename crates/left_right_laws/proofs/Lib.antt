-- What the laws rest on.
pub mod Turns
pub mod WayLemmas
pub mod WayFaces
pub mod ThreeWays
pub mod Lines
pub mod Forks
pub mod Nested
pub mod Tours
pub mod Crossings
mod Cases
mod Refused
