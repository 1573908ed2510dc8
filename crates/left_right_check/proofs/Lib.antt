-- What the check rests on.
pub mod TieLemmas
mod CompleteGraph
pub mod Refused
