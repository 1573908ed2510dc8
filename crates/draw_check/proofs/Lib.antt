-- The lemmas on checks of drawings.
pub mod DartSums
pub mod FaceSumLemmas
pub mod FaceIds
pub mod FaceLemmas
mod CornerLemmas
pub mod MetLemmas
pub mod LooseLemmas
mod SpanLemmas
mod WedgeLemmas
mod RunLemmas
mod StarLemmas
mod OnEdgeLemmas
mod Cases
pub mod TurnLemmas
pub mod ValidYes
mod Refused
